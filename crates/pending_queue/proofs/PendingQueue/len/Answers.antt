-- Each ring has at most 2 ^ 30 chunks, so the sum fits.
use Rattle.std.proofs.Common.{arith}
use Rattle.ring.specs.Held.{held_limit}
use Rattle.pending_queue.proofs.PendingQueue.len.Goals as goal

pub overflow_add-result : goal.overflow_add-result
overflow_add-result c =
    let a = c.args in
    omega (arith, held_limit a.self.now.unordered a.unordered.now, held_limit a.self.now.ordered a.ordered.now)

pub returns : goal.returns
returns c = omega arith
