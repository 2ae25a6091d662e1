-- The slot is the i-th of `held`; past the end nothing is set.
use Rattle.chunk_slot.specs.Meaning.{chunk_for}
use Rattle.ring.specs.Held.{held_set}
use Rattle.ring.proofs.Ring.put.Goals as goal

pub returns : goal.returns
returns c =
    let a = c.args in
    let s = c.slot-at in
    let x = c.write in
    held_set a.self.now a.cells.now a.i s.result s.ensures (chunk_for a.words) x.new.cells x.ensures
