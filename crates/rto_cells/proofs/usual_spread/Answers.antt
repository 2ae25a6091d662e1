-- `usual_spread` is right since its steps on the bits are those of `rto`'s `Floor`, whose exponents keep the shift in range. Assumes nothing.
use native.Mathlib.Nat.{le_trans}
use native.Mathlib.Omega.{arith}
use lib.Dec.{lit≤}
use Rattle.rto.proofs.Floor.{exponent_within, from_bits}
use Rattle.rto_cells.proofs.usual_spread.Goals as goal

pub overflow_sub-result : goal.overflow_sub-result
overflow_sub-result c = le_trans (exponent_within c.args.rttvar c.requires c.well_formed.0.1).1 (lit≤ tt)

pub overflow_shr-result : goal.overflow_shr-result
overflow_shr-result c = let h = (exponent_within c.args.rttvar c.requires c.well_formed.0.1).0 in omega arith

pub returns : goal.returns
returns c = from_bits c.args.rttvar c.requires c.well_formed.0.1
