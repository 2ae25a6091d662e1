-- A loop that goes back while the entry before is of the message.
use Rattle.std.proofs.Common.{◌≡◌}
use Rattle.ring.specs.Held.{held}
use Rattle.payload_queue.specs.OneRun.{first_of}
use Rattle.payload_queue.proofs.PayloadQueue.first_of.Given as goal

abbrev pub invariant-loop-i : goal.invariant-loop-i
invariant-loop-i l = first_of l.number l.i (held l.self.ring l.cells) ≡ first_of l.number l.near (held l.self.ring l.cells)
