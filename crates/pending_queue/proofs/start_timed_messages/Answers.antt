-- A loop that goes down from the end and stops at the first that was seen: `Done`.
use Rattle.std.proofs.Common.{leb, sym, refl, ap, ◌∙◌, arith, rules, le-leb}
use borrow.Author.Tests.{lt-leb}
use Rattle.rows.specs.Ends.{end_start, end_turn, end_stop, end_zero}
use Rattle.chunk_slot.specs.Chunks.{blank_chunk}
use Rattle.ring.specs.Held.{held}
use Rattle.pending_queue.proofs.start_timed_messages.Goals as goal

pub loop-i-init : goal.loop-i-init
loop-i-init c =
    let a = c.args in
    (omega arith, search rules, end_start _ _ (held a.ring.now a.cells.now) c.count-i.result (omega arith))

pub returns-then-nth_number-first : goal.returns-then-nth_number-first
returns-then-nth_number-first c =
    let l = c.loop-i in
    let n = c.nth_number in
    let s = ap (leb c.args.first) (sym n.ensures) ∙ lt-leb _ n.result c.if-nth_number-first.true in
    end_stop _ _ _ l.i blank_chunk c.loop-i-test.true l.invariant.0 l.invariant.2 refl s

pub loop-i-preserved : goal.loop-i-preserved
loop-i-preserved c =
    let l = c.loop-i in
    let n = c.nth_number in
    let s = ap (leb c.args.first) (sym n.ensures) ∙ le-leb _ n.result c.if-nth_number-first.false in
    (omega arith, search rules, end_turn _ _ _ l.i blank_chunk c.loop-i-test.true l.invariant.0 l.invariant.2 refl s c.start_nth.ensures)

pub returns : goal.returns
returns c = let l = c.loop-i in end_zero _ _ _ _ l.i (omega arith) l.invariant.2
