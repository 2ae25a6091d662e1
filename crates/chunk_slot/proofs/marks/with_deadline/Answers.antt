-- One bit is taken from the word, and added anew.
use mathlib.Core.Bool.{true}
use Prim.Native.Nat.{◌/◌, ◌%◌}
use native.Mathlib.Omega.{arith}
use Rattle.cells.specs.Words.{bit_at}
use Rattle.chunk_slot.specs.Marks.{marks_in}
use Rattle.chunk_slot.specs.Remarks.{bit_of_lem, remark}
use Rattle.chunk_slot.proofs.marks.with_deadline.Goals as goal

pub returns : goal.returns
unfolding marks_in
returns c =
    let m = c.args.marks in
    remark m _ (m / 65536 % 65536) (bit_at 17592186044416 m) (bit_at 35184372088832 m) true (omega arith) (omega (arith, bit_of_lem (m / 17592186044416 % 2) (omega arith), bit_of_lem (m / 35184372088832 % 2) (omega arith)))
