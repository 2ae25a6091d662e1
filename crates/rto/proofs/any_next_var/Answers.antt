-- `any_next_var` is right since `smoothed` weighs as the definition does, and the cast rounds as `of_int` does. Assumes nothing.
use Rattle.rto.specs.Rto.{next_var}
use Rattle.rto.proofs.any_next_var.Goals as goal

pub returns : goal.returns
unfolding next_var
returns c = cc
