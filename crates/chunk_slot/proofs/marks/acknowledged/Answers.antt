-- Two bits are taken from the word, and one is added.
use native.Mathlib.Omega.{arith}
use Rattle.chunk_slot.specs.Remarks.{remark_acked}
use Rattle.chunk_slot.proofs.marks.acknowledged.Goals as goal

pub returns : goal.returns
returns c = remark_acked c.args.marks _ (omega arith)
