-- The SSN is taken from the word, and the one before it is added.
use Prim.Native.Nat.{◌+◌, ◌-◌, ◌*◌, ◌/◌, ◌%◌}
use native.Mathlib.Omega.{arith}
use Rattle.cells.specs.Words.{bit_at}
use Rattle.chunk_slot.specs.Marks.{marks_in}
use Rattle.chunk_slot.specs.Remarks.{bit_of_lem, remark}
use Rattle.chunk_slot.proofs.marks.one_lower.Goals as goal

pub returns : goal.returns
unfolding marks_in
returns c =
    let m = c.args.marks in
    let before = (m / 65536 % 65536 + 65535) % 65536 in
    remark m (m - m / 65536 % 65536 * 65536 + before * 65536) before (bit_at 17592186044416 m) (bit_at 35184372088832 m) (bit_at 70368744177664 m) (omega arith)
    (omega (arith, bit_of_lem (m / 17592186044416 % 2) (omega arith), bit_of_lem (m / 35184372088832 % 2) (omega arith), bit_of_lem (m / 70368744177664 % 2) (omega arith)))
