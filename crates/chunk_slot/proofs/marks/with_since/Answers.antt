-- One bit is taken from the word, and added anew.
use native.Mathlib.Omega.{arith}
use Rattle.chunk_slot.specs.Remarks.{remark_since}
use Rattle.chunk_slot.proofs.marks.with_since.Goals as goal

pub returns : goal.returns
returns c = remark_since c.args.marks _ (omega arith)
