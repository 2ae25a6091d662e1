-- The bytes so far are those of the slice.
use Rattle.std.proofs.Common.{◌≡◌, length, take}
use Rattle.octets.proofs.overwrite.Given as goal

abbrev pub invariant-loop-i : goal.invariant-loop-i
invariant-loop-i l = (length l.out ≡ length l.initial.out) × (take l.i l.out ≡ take l.i l.from)
