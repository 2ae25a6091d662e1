-- The subtraction is modulo 2 ^ 32, and a TSN fits an index.
use Rattle.std.proofs.Common.{arith}
use Rattle.payload_queue.proofs.PayloadQueue.place.Goals as goal

pub returns : goal.returns
returns c = omega arith
