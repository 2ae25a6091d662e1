-- `usual_rttvar` is right since of a usual rttvar the sum of quarters is the float that the definition rounds to (`rto`'s `Scaled`). Assumes nothing.
use lib.Ieee.{of_bits}
use Rattle.rto.proofs.Scaled.{by_quarters}
use Rattle.rto_cells.proofs.usual_rttvar.Goals as goal

pub returns : goal.returns
unfolding of_bits
returns c = let h = by_quarters c.args.rttvar c.args.srtt c.args.rtt c.requires.fact_1 c.requires.fact_2 c.requires.fact_3 in cc
