-- A law for each way out.
use mathlib.Core.Path.{refl, sym, ◌∙◌}
use Rattle.model.specs.Streams.{find}
use Rattle.model.specs.Rings.{drop_ssn}
use Rattle.outbound_queue.specs.Outbound.{sender_of, does}
use Rattle.outbound_abandon.specs.Expiry.{lean_expire_lem, expire_late, expire_none, expire_not, expire_unordered, expire_ordered}
use Rattle.outbound_abandon.proofs.expiry.expire_pending.Goals as goal
use borrow.Author.Tests.{not-true, not-false}

pub returns-then-clock-gt-CLOCK_MAX : goal.returns-then-clock-gt-CLOCK_MAX
returns-then-clock-gt-CLOCK_MAX c =
    let a = c.args in
    ((λ room ts. does (lean_expire_lem a.clock) (expire_late a.clock (sender_of ts a.q.now a.cells.now) c.if-clock-gt-CLOCK_MAX.true), λ k. k), λ n. (refl, refl))

pub returns-in_default : goal.returns-in_default
returns-in_default c =
    let a = c.args in
    ((λ room ts. does (lean_expire_lem a.clock) (expire_none a.clock (sender_of ts a.q.now a.cells.now) c.if-clock-gt-CLOCK_MAX.false (sym c.peek_pending.ensures ∙ c.in_default.is)), λ k. k), λ n. absurd (n refl))

pub returns-then-not-is_expired : goal.returns-then-not-is_expired
returns-then-not-is_expired c =
    let a = c.args in
    let e = sym c.peek_pending.ensures ∙ c.in-Some.is in
    let n = sym c.is_expired.ensures ∙ c.if-not-is_expired.true in
    ((λ room ts. does (lean_expire_lem a.clock) (expire_not a.clock (sender_of ts a.q.now a.cells.now) c.if-clock-gt-CLOCK_MAX.false c.in-Some.chunk e n), λ k. k), λ n. absurd (n refl))

pub returns-else-not-message : goal.returns-else-not-message
returns-else-not-message c =
    let a = c.args in
    let ws = a.cells.now in
    let e = sym c.peek_pending.ensures ∙ c.in-Some.is in
    let y = sym c.is_expired.ensures ∙ c.if-not-is_expired.false in
    let r = c.remove_pending-removed in (
      (
        λ room ts. does (lean_expire_lem a.clock)
            (expire_unordered a.clock (sender_of ts a.q.now a.cells.now) c.if-clock-gt-CLOCK_MAX.false c.in-Some.chunk e y (λ us. sender_of us r.new.self ws) r.ensures.1 (not-false _ c.if-not-message.false) (r.ensures.0.0 ts)),
        r.ensures.0.1,
      ),
      λ n. absurd (n refl),
    )

pub returns-then-not-message : goal.returns-then-not-message
returns-then-not-message c =
    let a = c.args in
    let e = sym c.peek_pending.ensures ∙ c.in-Some.is in
    let y = sym c.is_expired.ensures ∙ c.if-not-is_expired.false in
    let r = c.remove_pending-removed in
    let l = c.lower_ssns in
    let id = c.in-Some.chunk.message.stream in (
      (
        λ room ts.
            let us = drop_ssn (find id ts) ts in
            does (lean_expire_lem a.clock)
            (expire_ordered a.clock (sender_of ts a.q.now a.cells.now) c.if-clock-gt-CLOCK_MAX.false c.in-Some.chunk e y (λ vs. sender_of vs r.new.self l.new.cells) r.ensures.1 (not-true _ c.if-not-message.true) (r.ensures.0.0 us) (l.ensures.0 us)),
        λ k. l.ensures.1 (r.ensures.0.1 k),
      ),
      λ n. absurd (n refl),
    )
