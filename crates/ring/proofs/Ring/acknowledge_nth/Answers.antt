-- The slot is the i-th of `held`, so what changes there changes the i-th, and what it held was that one's.
use mathlib.Core.Path.{◌∙◌, ap}
use Rattle.model.specs.declared.Chunk.{Chunk}
use Rattle.model.specs.Flight.{acknowledged}
use Rattle.ring.specs.Held.{held_get, held_adjust}
use Rattle.ring.proofs.Ring.acknowledge_nth.Goals as goal

pub returns : goal.returns
returns c =
    let a = c.args in
    let s = c.slot-at in
    let x = c.acknowledge_at in (
      x.ensures.0 ∙ ap (λ (y : Chunk). y.length) (held_get a.self.now a.cells.now a.i s.result s.ensures),
      held_adjust a.self.now a.cells.now a.i s.result s.ensures acknowledged x.new.cells x.ensures.1,
    )
