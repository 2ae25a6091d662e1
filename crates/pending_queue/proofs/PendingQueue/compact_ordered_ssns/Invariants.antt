-- A loop that puts `lowered` of each chunk in its place; the bytes stay.
use Rattle.std.proofs.Common.{◌≡◌, length}
use Rattle.model.specs.Rings.{lowered}
use Rattle.rows.specs.Turns.{Mapped}
use Rattle.ring.specs.Held.{held}
use Rattle.pending_queue.proofs.PendingQueue.compact_ordered_ssns.Given as goal

abbrev pub invariant-loop-i : goal.invariant-loop-i
invariant-loop-i l = (length l.ordered ≡ length l.initial.ordered) × Mapped (lowered l.stream) (held l.self.ordered l.initial.ordered) l.i (held l.self.ordered l.ordered)
