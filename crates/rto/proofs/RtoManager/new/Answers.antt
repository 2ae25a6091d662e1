-- `RtoManager::new` is right since the tests are the definition's, in its order. Assumes nothing.
use lib.Ieee.{of_bits, of_int}
use Rattle.std.proofs.lemmas.Grind.{common_steps}
use Rattle.std.proofs.Common.{arith}
use Rattle.rto.proofs.RtoManager.new.Goals as goal

pub returns : goal.returns
unfolding of_bits of_int
returns c = grind (arith, common_steps)
