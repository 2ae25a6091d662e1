-- `smoothed` is right since its operations stand in the contract's order, and its literals are those numbers as floats. Assumes nothing.
use Rattle.std.proofs.Common.{refl}
use lib.Ieee.{of_bits, of_int}
use Rattle.rto.proofs.smoothed.Goals as goal

pub returns : goal.returns
unfolding of_bits of_int
returns c = refl
