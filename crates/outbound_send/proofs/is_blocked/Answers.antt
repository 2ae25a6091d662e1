-- The room, and then whether there is a head.
use mathlib.Core.Path.{sym, ap, ◌∙◌}
use Rattle.std.specs.Prelude.{is_some}
use Rattle.model.specs.Rings.{head}
use Rattle.outbound_queue.specs.Outbound.{rings_in, ring_room, waiting, flying}
use Rattle.outbound_send.specs.Sends.{blocked_room, blocked_full}
use Rattle.outbound_send.proofs.is_blocked.Goals as goal

pub returns-then-not-is_full : goal.returns-then-not-is_full
returns-then-not-is_full c =
    let a = c.args in
    let ws = a.cells.now in
    blocked_room (head (waiting a.q.now (rings_in ws))) (ring_room ws) (flying a.q.now (rings_in ws)).entries (sym c.is_full.ensures ∙ c.if-not-is_full.true)

pub returns : goal.returns
returns c =
    let a = c.args in
    let ws = a.cells.now in
    let full = sym c.is_full.ensures ∙ c.if-not-is_full.false in
    let front = head (waiting a.q.now (rings_in ws)) in
    c.is_some.ensures ∙ ap is_some c.peek_pending.ensures ∙ blocked_full front (ring_room ws) (flying a.q.now (rings_in ws)).entries full
