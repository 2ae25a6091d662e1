-- A loop that adds at the end: what is held and the fragments to come are what was held and all fragments.
use Rattle.std.proofs.Common.{◌≡◌, ◌+◌, ◌*◌, ◌≤◌, true, ◌++◌, length}
use Rattle.model.specs.Messages.{pieces, cut}
use Rattle.cells.specs.Slots.{room_of}
use Rattle.ring.specs.Held.{held}
use Rattle.pending_queue.proofs.cutting.cut_into.Given as goal

abbrev pub invariant-loop-k : goal.invariant-loop-k
invariant-loop-k l =
    (length l.cells ≡ length l.initial.cells) × (length (held l.ring l.cells) + l.k ≤ room_of l.initial.cells) × (l.from + l.k * 65535 ≤ 562949953421312)
    × (held l.ring l.cells ++ cut l.message l.first l.k l.maximum l.from l.left ≡ held l.initial.ring l.initial.cells ++ cut l.message true (pieces l.length l.maximum) l.maximum l.offset l.length)
