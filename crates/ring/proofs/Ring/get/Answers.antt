-- The i-th, or nothing.
use mathlib.Core.Path.{◌∙◌, ap}
use native.Mathlib.Omega.{arith}
use Rattle.ring.specs.Held.{held, get_in, get_out}
use Rattle.ring.proofs.Ring.get.Goals as goal
use Rattle.std.specs.Prelude.{Some}

pub returns-else-i-count : goal.returns-else-i-count
returns-else-i-count c = let a = c.args in get_out (held a.self.now a.cells.now) a.i (omega arith)

pub returns-then-i-count : goal.returns-then-i-count
returns-then-i-count c = let a = c.args in ap Some c.nth.ensures ∙ get_in (held a.self.now a.cells.now) a.i (omega arith)
