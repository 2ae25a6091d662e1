-- Nothing, or the words of the slot of the start.
use mathlib.Core.Path.{◌∙◌, ap}
use Prim.Native.Nat.{ℕ, ◌%◌}
use native.Mathlib.Omega.{arith}
use Rattle.ring.specs.Held.{held, length_held, get_out, get_first, first_at}
use Rattle.ring.proofs.Ring.front.Goals as goal
use Rattle.std.specs.Prelude.{Some}

pub returns-then-count-eq0 : goal.returns-then-count-eq0
returns-then-count-eq0 c =
    let a = c.args in
    let l = held a.self.now a.cells.now in
    get_out l 0 (omega arith) ∙ get_first l

pub fold-start-requires : goal.fold-start-requires
fold-start-requires c = let a = c.args in omega (arith, length_held a.self.now a.cells.now)

pub returns : goal.returns
returns c =
    let a = c.args in
    let s = c.fold-start.ensures ∙ ap (λ (k : ℕ). a.self.now.start % k) c.room.ensures in
    ap Some c.read.ensures ∙ first_at a.self.now a.cells.now c.fold-start.result s (omega arith)
