-- The slot is the i-th of `held`, so what changes there changes the i-th, and what it held was that one's.
use mathlib.Core.Path.{◌∙◌, ap}
use Rattle.model.specs.Rings.{given_up}
use Rattle.chunk_slot.specs.Changes.{held_of}
use Rattle.ring.specs.Held.{held_get, held_adjust}
use Rattle.ring.proofs.Ring.give_up_nth.Goals as goal

pub returns : goal.returns
returns c =
    let a = c.args in
    let s = c.slot-at in
    let x = c.give_up_at in (
      x.ensures.0 ∙ ap (held_of a.number) (held_get a.self.now a.cells.now a.i s.result s.ensures),
      held_adjust a.self.now a.cells.now a.i s.result s.ensures (given_up a.number) x.new.cells x.ensures.1,
    )
