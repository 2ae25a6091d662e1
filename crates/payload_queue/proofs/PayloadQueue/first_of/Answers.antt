-- A loop that goes back while the entry before is of the message.
use Rattle.std.proofs.Common.{◌≡◌, ℕ, eqb, sym, refl, ap, ◌∙◌, arith, eq-eqb, ne_eqb}
use Rattle.ring.specs.Held.{held}
use Rattle.payload_queue.specs.OneRun.{first_of, first_turn, first_stop}
use Rattle.payload_queue.proofs.PayloadQueue.first_of.Goals as goal

pub loop-i-init : goal.loop-i-init
loop-i-init c = refl

pub returns-then-nth_number-number : goal.returns-then-nth_number-number
returns-then-nth_number-number c =
    let a = c.args in
    let l = c.loop-i in
    let n = c.nth_number in
    let s = ap (λ (k : ℕ). eqb k a.number) (sym n.ensures) ∙ ne_eqb n.result a.number c.if-nth_number-number.true in
    (omega arith) ∙ first_stop a.number (held a.self.now.ring a.cells.now) l.i c.loop-i-test.true s ∙ l.invariant

pub loop-i-preserved : goal.loop-i-preserved
loop-i-preserved c =
    let a = c.args in
    let l = c.loop-i in
    let n = c.nth_number in
    let s = ap (λ (k : ℕ). eqb k a.number) (sym n.ensures) ∙ eq-eqb n.result a.number c.if-nth_number-number.false in
    first_turn a.number (held a.self.now.ring a.cells.now) l.i c.loop-i-test.true s ∙ l.invariant

pub returns : goal.returns
returns c =
    let a = c.args in
    let l = c.loop-i in
    let z : l.i ≡ 0 = omega arith in
    sym (ap (λ (k : ℕ). first_of a.number k (held a.self.now.ring a.cells.now)) z) ∙ l.invariant
