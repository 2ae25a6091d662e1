-- `RtoManager::reset` is right since the flag alone decides whether the blank numbers are put in. Assumes nothing.
use Rattle.std.proofs.Common.{rules}
use lib.Ieee.{of_bits, of_int}
use Rattle.rto.proofs.RtoManager.reset.Goals as goal

pub returns-then-not-self : goal.returns-then-not-self
unfolding of_bits of_int
returns-then-not-self c = search rules
