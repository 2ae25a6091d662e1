-- Refused, or the ends of both rings are started.
use mathlib.Core.Path.{refl}
use Rattle.outbound_queue.specs.Outbound.{sender_of, does}
use Rattle.outbound_send.specs.Sends.{lean_start_lem, start_late, in_range, start_all}
use Rattle.outbound_send.proofs.start_timed_messages.Goals as goal

pub returns-then-clock-gt-CLOCK_MAX : goal.returns-then-clock-gt-CLOCK_MAX
returns-then-clock-gt-CLOCK_MAX c =
    let a = c.args in
    ((λ room ts. does (lean_start_lem a.clock) (start_late a.clock (sender_of ts a.q.now a.cells.now) c.if-clock-gt-CLOCK_MAX.true), λ h. h), λ n. (refl, refl))

pub returns : goal.returns
returns c =
    let a = c.args in
    let e = c.start_rings.ensures in
    let h = c.if-clock-gt-CLOCK_MAX.false in (
      (λ room ts. let s = sender_of ts a.q.now a.cells.now in does (lean_start_lem a.clock) (start_all a.clock s h (in_range a.clock s h (e.0 ts))), e.1),
      λ n. absurd (n refl),
    )
