-- A loop that reads: the least of what was read and of what is left is the whole's.
use Rattle.std.proofs.Common.{◌≡◌, ◌≤◌, min, drop}
use Rattle.ring.specs.Held.{held}
use Rattle.payload_queue.specs.Queue.{never, least_due}
use Rattle.payload_queue.proofs.PayloadQueue.least_deadline.Given as goal

abbrev pub invariant-loop-i : goal.invariant-loop-i
invariant-loop-i l = (l.due ≤ never) × (min l.due (least_due (drop l.i (held l.self.ring l.cells))) ≡ least_due (held l.self.ring l.cells))
