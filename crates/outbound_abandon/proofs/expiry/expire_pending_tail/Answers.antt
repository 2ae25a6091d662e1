-- A law for each way out.
use mathlib.Core.Path.{refl, sym, ◌∙◌}
use Rattle.outbound_queue.specs.Outbound.{sender_of, does}
use Rattle.outbound_abandon.specs.Tails.{lean_expire_tail_lem, tail_late, tail_none, tail_not, tail_one}
use Rattle.outbound_abandon.proofs.expiry.expire_pending_tail.Goals as goal

pub returns-then-clock-gt-CLOCK_MAX : goal.returns-then-clock-gt-CLOCK_MAX
returns-then-clock-gt-CLOCK_MAX c =
    let a = c.args in
    ((λ room ts h. does (λ g. lean_expire_tail_lem g a.clock) (tail_late room a.clock (sender_of ts a.q.now a.cells.now) c.if-clock-gt-CLOCK_MAX.true), λ k. k), λ n. (refl, refl))

pub returns-in_default : goal.returns-in_default
returns-in_default c =
    let a = c.args in
    let e = sym c.peek_pending.ensures ∙ c.in_default.is in
    ((λ room ts h. does (λ g. lean_expire_tail_lem g a.clock) (tail_none room a.clock (sender_of ts a.q.now a.cells.now) c.if-clock-gt-CLOCK_MAX.false e), λ k. k), λ n. absurd (n refl))

pub returns-then-not-tail_is_expired : goal.returns-then-not-tail_is_expired
returns-then-not-tail_is_expired c =
    let a = c.args in
    let e = sym c.peek_pending.ensures ∙ c.in-Some.is in
    let n = sym c.tail_is_expired.ensures ∙ c.if-not-tail_is_expired.true in
    ((λ room ts h. does (λ g. lean_expire_tail_lem g a.clock) (tail_not room a.clock (sender_of ts a.q.now a.cells.now) c.if-clock-gt-CLOCK_MAX.false c.in-Some.chunk e n), λ k. k), λ n. absurd (n refl))

pub returns : goal.returns
returns c =
    let a = c.args in
    let e = sym c.peek_pending.ensures ∙ c.in-Some.is in
    let y = sym c.tail_is_expired.ensures ∙ c.if-not-tail_is_expired.false in
    let i = c.inflight_len-near.ensures in
    let u = c.give_up-bytes.ensures in (
      (λ room ts h. let r = u.0 room ts h in does (λ g. lean_expire_tail_lem g a.clock) (tail_one room a.clock (sender_of ts a.q.now a.cells.now) c.if-clock-gt-CLOCK_MAX.false c.in-Some.chunk e y i r.0 r.1), u.1),
      λ n. absurd (n refl),
    )
