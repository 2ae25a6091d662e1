-- `first_var` is right since the division is the definition's, and the cast rounds as `of_int` does. Assumes nothing.
use lib.Ieee.{of_bits, of_int}
use Rattle.rto.specs.Rto.{first_var}
use Rattle.rto.proofs.first_var.Goals as goal

pub returns : goal.returns
unfolding first_var of_bits of_int
returns c = cc
