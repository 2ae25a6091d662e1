-- The slot holds the i-th element of `held`; past the end both are blank.
use mathlib.Core.Path.{◌∙◌}
use Rattle.ring.specs.Held.{held_get}
use Rattle.ring.proofs.Ring.nth.Goals as goal

pub returns : goal.returns
returns c = let a = c.args in c.load.ensures ∙ held_get a.self.now a.cells.now a.i c.slot.result c.slot.ensures
