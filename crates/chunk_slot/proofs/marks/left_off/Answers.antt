-- Two bits are taken from the word, and one is added.
use mathlib.Core.Bool.{true, false}
use Prim.Native.Nat.{◌/◌, ◌%◌}
use native.Mathlib.Omega.{arith}
use Rattle.cells.specs.Words.{bit_at}
use Rattle.chunk_slot.specs.Marks.{marks_in}
use Rattle.chunk_slot.specs.Remarks.{bit_of_lem, remark}
use Rattle.chunk_slot.proofs.marks.left_off.Goals as goal

pub returns : goal.returns
unfolding marks_in
returns c =
    let m = c.args.marks in
    remark m _ (m / 65536 % 65536) true false (bit_at 70368744177664 m) (omega arith) (omega (arith, bit_of_lem (m / 70368744177664 % 2) (omega arith)))
