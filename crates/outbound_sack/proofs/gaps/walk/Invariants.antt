-- Between two turns `Going` holds.
use Rattle.std.proofs.Common.{◌≡◌, length}
use Rattle.ring.specs.Held.{held}
use Rattle.outbound_sack.specs.Walks.{Going}
use Rattle.outbound_sack.proofs.gaps.walk.Given as goal

abbrev pub invariant-loop-i : goal.invariant-loop-i
invariant-loop-i l = (length l.cells ≡ length l.initial.cells) × Going l.ends l.from l.top (held l.ring l.initial.cells) l.i l.furthest l.sum (held l.ring l.cells)
