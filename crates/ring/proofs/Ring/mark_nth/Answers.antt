-- The slot is the i-th of `held`, so what changes there changes the i-th.
use Rattle.model.specs.Flight.{to_retransmit}
use Rattle.ring.specs.Held.{held_adjust}
use Rattle.ring.proofs.Ring.mark_nth.Goals as goal

pub returns : goal.returns
returns c =
    let a = c.args in
    let s = c.slot-at in
    let x = c.mark_at in
    held_adjust a.self.now a.cells.now a.i s.result s.ensures to_retransmit x.new.cells x.ensures
