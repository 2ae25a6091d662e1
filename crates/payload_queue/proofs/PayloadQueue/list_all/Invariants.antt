-- A loop that writes a list into lent cells: what stands there and what is to come are the list. It fits.
use Rattle.std.proofs.Common.{ℕ, ◌≤◌, length, drop}
use Rattle.model.specs.Rings.{tsns_of}
use Rattle.rows.specs.Fills.{Filled}
use Rattle.ring.specs.Held.{held}
use Rattle.payload_queue.specs.Queue.{overdue_entry}
use Rattle.payload_queue.proofs.PayloadQueue.list_all.Given as goal

abbrev pub invariant-loop-i : goal.invariant-loop-i
invariant-loop-i l =
    (length (tsns_of (overdue_entry l.clock l.pending) l.initial.tsn (held l.self.ring l.cells)) ≤ length l.initial.out)
    × Filled ℕ (tsns_of (overdue_entry l.clock l.pending) l.initial.tsn (held l.self.ring l.cells)) l.initial.out l.k l.out (tsns_of (overdue_entry l.clock l.pending) l.tsn (drop l.i (held l.self.ring l.cells)))
