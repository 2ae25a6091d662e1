-- A loop that goes down from the end and stops at the first that was seen: `Done`.
use Rattle.std.proofs.Common.{◌≡◌, ◌≤◌, min, length}
use Rattle.limits.specs.Limits.{clock_max}
use Rattle.model.specs.Rings.{started}
use Rattle.rows.specs.Ends.{Done}
use Rattle.ring.specs.Held.{held}
use Rattle.pending_queue.specs.Lifetimes.{unseen}
use Rattle.pending_queue.proofs.start_timed_messages.Given as goal

abbrev pub invariant-loop-i : goal.invariant-loop-i
invariant-loop-i l = (l.i ≤ length (held l.ring l.initial.cells)) × (length l.cells ≡ length l.initial.cells) × Done (unseen l.first) (started (min l.clock clock_max) l.first) (held l.ring l.initial.cells) l.i (held l.ring l.cells)
