-- Window behind window, and the bytes add up.
use Rattle.std.proofs.Common.{◌≡◌, ◌+◌, ◌-◌, true, length}
use Rattle.model.specs.Sack.{blocks_from, all_within}
use Rattle.model.specs.Rings.{bytes}
use Rattle.ring.specs.Held.{held}
use Rattle.outbound_sack.specs.Windows.{Windows}
use Rattle.outbound_sack.proofs.gaps.acknowledge_blocks.Given as goal

abbrev pub invariant-loop-from : goal.invariant-loop-from
invariant-loop-from l = (length l.cells ≡ length l.initial.cells) × (all_within (length (held l.ring l.initial.cells)) (blocks_from l.count 0 l.part) ≡ true → Windows (blocks_from l.count 0 l.part) (held l.ring l.initial.cells) l.from l.top (held l.ring l.cells)) × (l.sum + bytes (held l.ring l.cells) ≡ bytes (held l.ring l.initial.cells))

abbrev pub decreases-loop-from : goal.decreases-loop-from
decreases-loop-from l = l.n - l.from
