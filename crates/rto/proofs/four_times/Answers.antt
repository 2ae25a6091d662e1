-- `four_times` is right since the library's cast saturates as the definition's does. Assumes nothing.
use lib.Ieee.{of_bits, of_int}
use Rattle.rto.specs.Rto.{four_times}
use Rattle.rto.proofs.four_times.Goals as goal

pub returns : goal.returns
unfolding four_times of_bits of_int
returns c = c.saturating_f64_to_u64.ensures
