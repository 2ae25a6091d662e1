-- The bytes so far are put.
use Rattle.std.proofs.Common.{◌≡◌}
use Rattle.answers.specs.Arrays.{byte_for, filling}
use Rattle.answers.proofs.arrays.fill.Given as goal

abbrev pub invariant-loop-i : goal.invariant-loop-i
invariant-loop-i g l = l.bytes ≡ filling (byte_for l.ruled l.seed) l.initial.bytes l.i
