-- Every message was seen, or one ring after the other came back.
use mathlib.Core.Path.{ap, ◌∙◌}
use mathlib.Core.List.{List}
use Prim.Native.Nat.{ℕ, ◌+◌, min}
use Rattle.limits.specs.Limits.{clock_max}
use Rattle.rows.specs.Parts.{patch}
use Rattle.ring.specs.Held.{held}
use Rattle.pending_queue.specs.Lifetimes.{started_end}
use Rattle.outbound_queue.specs.declared.OutboundQueue.{OutboundQueue}
use Rattle.outbound_queue.specs.Outbound.{third, rings_in, other_ring, both_back, sender_by, counted_by_lem}
use Rattle.outbound_queue.specs.Steps.{all_seen_lem, started_rings, started_counted}
use borrow.Author.Rules.{rules}
use Rattle.outbound_queue.proofs.OutboundQueue.start_rings.Goals as goal

pub returns-then-self : goal.returns-then-self
returns-then-self c =
    let a = c.args in
    (all_seen_lem (min a.clock clock_max) a.self.now (rings_in a.cells.now) c.if-self.true, λ h. h)

pub returns : goal.returns
returns c =
    let a = c.args in
    let d = c.if-self.false in
    let q = a.self.now in
    let one = c.start_timed_messages in
    let two = c.start_timed_messages-2 in
    let ws = a.cells.now in
    let r = rings_in ws in
    let k = third ws in
    let u = one.new.cells in
    let o = two.new.cells in
    let m = min a.clock clock_max in
    let e = other_ring ws u o (search rules) in
    let b = both_back ws u o (search rules) (search rules) in
    let f = two.ensures ∙ ap (λ (y : List ℕ). started_end m q.next_unstarted_message_id (held q.pending.ordered y)) e in
    let seen : OutboundQueue = record { pending = q.pending; inflight = q.inflight; next_message_id = q.next_message_id; next_unstarted_message_id = q.next_message_id } in
    let vs = patch k (k + k) (patch 0 k ws u) o in (
      λ ts. sender_by ts seen vs b ∙ started_rings m q r u o one.ensures f d ts,
      λ h. counted_by_lem seen vs b (started_counted m q r u o one.ensures f h),
    )
