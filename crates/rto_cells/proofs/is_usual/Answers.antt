-- `is_usual` is right since its tests are the definition's, in its order. Assumes nothing.
use Rattle.std.proofs.Common.{arith}
use Rattle.std.proofs.lemmas.Grind.{common_steps}
use lib.Ieee.{of_bits}
use Rattle.rto_cells.proofs.is_usual.Goals as goal

pub returns-then-manager : goal.returns-then-manager
unfolding of_bits
returns-then-manager c = grind (arith, common_steps)

pub returns-else-manager : goal.returns-else-manager
unfolding of_bits
returns-else-manager c = grind (arith, common_steps)
