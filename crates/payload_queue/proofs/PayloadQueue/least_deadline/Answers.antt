-- A loop that reads: the least of what was read and of what is left is the whole's.
use Rattle.std.proofs.Common.{ap, arith}
use Rattle.rows.specs.Turns.{read_turn, rest_none}
use Rattle.chunk_slot.specs.Chunks.{blank_chunk}
use Rattle.ring.specs.Held.{held}
use Rattle.payload_queue.specs.Queue.{least_due}
use Rattle.payload_queue.specs.Dues.{least_never}
use Rattle.payload_queue.proofs.PayloadQueue.least_deadline.Goals as goal

pub loop-i-init : goal.loop-i-init
loop-i-init c =
    let a = c.args in
    (omega arith, omega (arith, least_never (held a.self.now.ring a.cells.now)))

pub loop-i-preserved : goal.loop-i-preserved
loop-i-preserved c =
    let a = c.args in
    let l = c.loop-i in
    let e = held a.self.now.ring a.cells.now in
    let r = ap least_due (read_turn e l.i blank_chunk c.nth.ensures (omega arith)) in
    (omega (arith, l.invariant.0, c.lowered-due.ensures), omega (arith, l.invariant.1, r, c.lowered-due.ensures))

pub returns : goal.returns
returns c =
    let a = c.args in
    let l = c.loop-i in
    let e = held a.self.now.ring a.cells.now in
    omega (arith, l.invariant.0, l.invariant.1, ap least_due (rest_none e l.i (omega arith)), least_never e)
