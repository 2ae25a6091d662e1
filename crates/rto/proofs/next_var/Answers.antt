-- `next_var` is right since `smoothed` weighs as the definition does, and up to 2 ^ 53 the cast rounds nothing away. Assumes nothing.
use Rattle.rto.specs.Rto.{next_var}
use Rattle.rto.proofs.next_var.Goals as goal

pub returns : goal.returns
unfolding next_var
returns c = cc
