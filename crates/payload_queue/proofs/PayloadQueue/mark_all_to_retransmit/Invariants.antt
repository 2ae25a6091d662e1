-- A loop that changes each entry in its place; no entry holds more or less for it.
use Rattle.std.proofs.Common.{◌≡◌, length}
use Rattle.model.specs.Flight.{to_retransmit}
use Rattle.rows.specs.Turns.{Mapped}
use Rattle.ring.specs.Held.{held}
use Rattle.payload_queue.proofs.PayloadQueue.mark_all_to_retransmit.Given as goal

abbrev pub invariant-loop-i : goal.invariant-loop-i
invariant-loop-i l = (length l.cells ≡ length l.initial.cells) × Mapped to_retransmit (held l.self.ring l.initial.cells) l.i (held l.self.ring l.cells)
