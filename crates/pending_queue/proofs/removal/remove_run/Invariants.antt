-- A loop that takes from the front: `Taking`.
use Rattle.std.proofs.Common.{◌≡◌, ◌+◌, ◌*◌, ◌≤◌, length}
use Rattle.model.specs.State.{is_of}
use Rattle.cells.specs.Slots.{limit}
use Rattle.ring.specs.Held.{held}
use Rattle.pending_queue.specs.Runs.{Taking}
use Rattle.pending_queue.proofs.removal.remove_run.Given as goal

abbrev pub invariant-loop : goal.invariant-loop
invariant-loop l =
    (l.counter + length (held l.ring l.cells) ≡ l.end) × (l.end ≤ limit) × (l.bytes ≤ l.counter * 4294967295) × Taking (is_of l.number) (held l.initial.ring l.cells) (held l.ring l.cells) l.bytes l.last
