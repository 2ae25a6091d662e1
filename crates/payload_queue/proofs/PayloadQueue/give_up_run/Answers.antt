-- A loop that gives up each entry in its place, up to the first of another message: `Giving`.
use Rattle.std.proofs.Common.{ℕ, eqb, get_or, sym, ap, ◌∙◌, arith, rules, eq-eqb, ne_eqb}
use Rattle.chunk_slot.specs.Chunks.{blank_chunk}
use Rattle.chunk_slot.specs.Changes.{held_own}
use Rattle.ring.specs.Held.{held, held_limit}
use Rattle.payload_queue.specs.OneRun.{giving_start, giving_turn, giving_stop, giving_end}
use Rattle.payload_queue.proofs.PayloadQueue.give_up_run.Goals as goal

pub loop-i-init : goal.loop-i-init
loop-i-init c = (search rules, giving_start _ _ _, omega arith)

pub returns-then-nth_number-number : goal.returns-then-nth_number-number
returns-then-nth_number-number c =
    let a = c.args in
    let l = c.loop-i in
    let n = c.nth_number in
    let s = ap (λ (k : ℕ). eqb k a.number) (sym n.ensures) ∙ ne_eqb n.result a.number c.if-nth_number-number.true in
    giving_stop a.number l.invariant.1 s

pub overflow_add-sum : goal.overflow_add-sum
overflow_add-sum c = let a = c.args in omega (arith, held_limit a.self.now.ring a.cells.now)

pub loop-i-preserved : goal.loop-i-preserved
loop-i-preserved c =
    let a = c.args in
    let l = c.loop-i in
    let n = c.nth_number in
    let g = c.give_up_nth.ensures in
    let s = ap (λ (k : ℕ). eqb k a.number) (sym n.ensures) ∙ eq-eqb n.result a.number c.if-nth_number-number.false in
    (search rules, giving_turn a.number l.invariant.1 (omega arith) s g.1 (g.0 ∙ held_own a.number (get_or (held a.self.now.ring l.cells) l.i blank_chunk) s), omega arith)

pub returns : goal.returns
returns c =
    let a = c.args in
    let l = c.loop-i in
    giving_end a.number l.invariant.1 (omega arith)
