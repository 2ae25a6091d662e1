-- From the last byte on: with what is left, the bytes come to the whole number.
use Rattle.std.proofs.Common.{◌≡◌}
use Rattle.std.proofs.lemmas.List.Edits.{sets}
use Rattle.answers.specs.Arrays.{last_bytes}
use Rattle.answers.proofs.arrays.put.Given as goal

abbrev pub invariant-loop-i : goal.invariant-loop-i
invariant-loop-i g l = sets l.bytes l.from (last_bytes l.i l.rest) ≡ sets l.initial.bytes l.from (last_bytes l.width l.value)
