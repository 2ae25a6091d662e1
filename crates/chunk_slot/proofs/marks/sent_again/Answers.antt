-- A bit is taken from the word and added anew, or nothing changes.
use mathlib.Core.Path.{◌∙◌, ap}
use mathlib.Core.Bool.{Bool, true, not, ◌||◌, or-true, or-false}
use Prim.Native.Nat.{◌+◌, ◌-◌, ◌*◌, ◌/◌, ◌%◌}
use native.Mathlib.Omega.{arith}
use borrow.Author.Tests.{eq-eqb, ne_eqb}
use Rattle.cells.specs.Words.{bit_at}
use Rattle.chunk_slot.specs.Marks.{marks_in}
use Rattle.chunk_slot.specs.Remarks.{bit_of_lem, remark, again_same, again_new}
use Rattle.chunk_slot.proofs.marks.sent_again.Goals as goal

pub returns-then-marks-eq1 : goal.returns-then-marks-eq1
unfolding marks_in
returns-then-marks-eq1 c =
    let x = marks_in c.args.marks in
    again_same x (ap (λ (b : Bool). x.retransmit || not (b || x.abandoned)) (eq-eqb _ 1 c.if-marks-eq1.true) ∙ or-false x.retransmit)

pub returns-then-marks-eq1-2 : goal.returns-then-marks-eq1-2
unfolding marks_in
returns-then-marks-eq1-2 c =
    let x = marks_in c.args.marks in
    again_same x (ap (λ (b : Bool). x.retransmit || not (x.acked || b)) (eq-eqb _ 1 c.if-marks-eq1-2.true) ∙ ap (λ (b : Bool). x.retransmit || not b) (or-true x.acked) ∙ or-false x.retransmit)

pub returns : goal.returns
unfolding marks_in
returns c =
    let m = c.args.marks in
    let e =
    remark m (m - m / 35184372088832 % 2 * 35184372088832 + 35184372088832) (m / 65536 % 65536) (bit_at 17592186044416 m) true (bit_at 70368744177664 m) (omega arith) (omega (arith, bit_of_lem (m / 17592186044416 % 2) (omega arith), bit_of_lem (m / 70368744177664 % 2) (omega arith))) in
    e ∙ again_new (marks_in m) (ne_eqb (m / 8796093022208 % 2) 1 c.if-marks-eq1.false) (ne_eqb (m / 17592186044416 % 2) 1 c.if-marks-eq1-2.false)
