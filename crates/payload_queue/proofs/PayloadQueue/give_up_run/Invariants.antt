-- A loop that gives up each entry in its place, up to the first of another message: `Giving`.
use Rattle.std.proofs.Common.{◌≡◌, ◌*◌, ◌≤◌, length}
use Rattle.ring.specs.Held.{held}
use Rattle.payload_queue.specs.OneRun.{Giving}
use Rattle.payload_queue.proofs.PayloadQueue.give_up_run.Given as goal

abbrev pub invariant-loop-i : goal.invariant-loop-i
invariant-loop-i l = (length l.cells ≡ length l.initial.cells) × Giving l.number l.from (held l.self.ring l.initial.cells) l.i (held l.self.ring l.cells) l.sum × (l.sum ≤ l.i * 4294967295)
