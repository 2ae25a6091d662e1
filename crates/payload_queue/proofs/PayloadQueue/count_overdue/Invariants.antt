-- A loop that reads: what is counted and the count of what is left make the whole.
use Rattle.std.proofs.Common.{◌≡◌, ◌+◌, ◌≤◌, drop}
use Rattle.rows.specs.Walks.{count}
use Rattle.ring.specs.Held.{held}
use Rattle.payload_queue.specs.Queue.{overdue_entry}
use Rattle.payload_queue.proofs.PayloadQueue.count_overdue.Given as goal

abbrev pub invariant-loop-i : goal.invariant-loop-i
invariant-loop-i l =
    (l.k + count (overdue_entry l.clock l.pending) (drop l.i (held l.self.ring l.cells)) ≡ count (overdue_entry l.clock l.pending) (held l.self.ring l.cells)) × (l.k ≤ l.i)
