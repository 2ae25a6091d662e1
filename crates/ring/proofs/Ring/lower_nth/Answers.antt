-- The slot is the i-th of `held`, so what changes there changes the i-th.
use Rattle.model.specs.Rings.{lowered}
use Rattle.ring.specs.Held.{held_adjust}
use Rattle.ring.proofs.Ring.lower_nth.Goals as goal

pub returns : goal.returns
returns c =
    let a = c.args in
    let s = c.slot-at in
    let x = c.lower_at in
    held_adjust a.self.now a.cells.now a.i s.result s.ensures (lowered a.stream) x.new.cells x.ensures
