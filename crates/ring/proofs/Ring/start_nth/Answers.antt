-- The slot is the i-th of `held`, so what changes there changes the i-th.
use Prim.Native.Nat.{min}
use Rattle.limits.specs.Limits.{clock_max}
use Rattle.model.specs.Rings.{started}
use Rattle.ring.specs.Held.{held_adjust}
use Rattle.ring.proofs.Ring.start_nth.Goals as goal

pub returns : goal.returns
returns c =
    let a = c.args in
    let s = c.slot-at in
    let x = c.start_at in
    held_adjust a.self.now a.cells.now a.i s.result s.ensures (started (min a.clock clock_max) a.unstarted) x.new.cells x.ensures
