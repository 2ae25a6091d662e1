-- There are at most 2 ^ 30 entries, so their number is one of 32 bits.
use Rattle.std.proofs.Common.{arith}
use Rattle.ring.specs.Held.{held_limit}
use Rattle.payload_queue.proofs.PayloadQueue.next_tsn.Goals as goal

pub overflow_cast-result : goal.overflow_cast-result
overflow_cast-result c = let a = c.args in omega (arith, held_limit a.self.now.ring a.cells.now)
