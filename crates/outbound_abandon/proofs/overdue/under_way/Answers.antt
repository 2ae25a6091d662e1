-- Whether a message is under way, and then the head.
use mathlib.Core.Path.{sym, ◌∙◌}
use Rattle.model.specs.Rings.{head}
use Rattle.limits.specs.Flags.{is_set, is_set_lem, not_set}
use Rattle.outbound_queue.specs.Outbound.{rings_in, waiting}
use Rattle.outbound_abandon.specs.Listings.{named_idle, named_none, named_head}
use Rattle.outbound_abandon.proofs.overdue.under_way.Goals as goal

pub returns-then-q-eq0 : goal.returns-then-q-eq0
returns-then-q-eq0 c =
    let a = c.args in
    let p = a.q.now.pending in
    named_idle (is_set p.unordered_is_selected) (head (waiting a.q.now (rings_in a.cells.now))) (not_set c.if-q-eq0.true)

pub returns-in_err-chunk : goal.returns-in_err-chunk
returns-in_err-chunk c =
    let a = c.args in
    let p = waiting a.q.now (rings_in a.cells.now) in
    c.from_residual.ensures ∙ named_none p.under_way (head p) (sym c.peek_pending.ensures ∙ c.in_err-chunk.was)

pub returns : goal.returns
returns c =
    let a = c.args in
    let p = a.q.now.pending in
    named_head (is_set p.unordered_is_selected) (head (waiting a.q.now (rings_in a.cells.now))) c.in_ok-chunk.chunk (is_set_lem c.if-q-eq0.false) (sym c.peek_pending.ensures ∙ c.in_ok-chunk.was)
