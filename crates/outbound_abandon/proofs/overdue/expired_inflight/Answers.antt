-- Refused, or none before the bound, or the list of what is overdue; where the state is Good it is the model's.
use mathlib.Core.Path.{refl, ap}
use Rattle.model.specs.State.{Flight}
use Rattle.payload_queue.specs.declared.PayloadQueue.{PayloadQueue}
use Rattle.payload_queue.specs.Model.{with_flight}
use Rattle.outbound_queue.specs.Outbound.{remade, sender_of}
use Rattle.outbound_abandon.specs.Listings.{list_late, list_early, list_is, finds}
use Rattle.outbound_abandon.proofs.overdue.expired_inflight.Goals as goal

pub returns-then-clock-gt-CLOCK_MAX : goal.returns-then-clock-gt-CLOCK_MAX
returns-then-clock-gt-CLOCK_MAX c =
    let a = c.args in
    let ws = a.cells.now in (
      λ room ts. finds a.clock a.q.now.inflight.due (sender_of ts a.q.now ws) a.out.now (λ k. k.1.1) (list_late a.clock a.q.now.inflight.due (sender_of ts a.q.now ws) a.out.now c.if-clock-gt-CLOCK_MAX.true),
      (λ ts. refl, λ k. k),
      λ n. refl,
    )

pub returns-then-clock-q : goal.returns-then-clock-q
returns-then-clock-q c =
    let a = c.args in
    let ws = a.cells.now in (
      λ room ts. finds a.clock a.q.now.inflight.due (sender_of ts a.q.now ws) a.out.now (λ k. k.1.1) (list_early a.clock a.q.now.inflight.due (sender_of ts a.q.now ws) a.out.now c.if-clock-gt-CLOCK_MAX.false c.if-clock-q.true),
      (λ ts. refl, λ k. k),
      λ n. refl,
    )

pub returns : goal.returns
returns c =
    let a = c.args in
    let q = a.q.now in
    let ws = a.cells.now in
    let o = a.out.now in
    let w = c.under_way-awaited in
    let m = c.expired in
    let e = m.ensures in (
      λ room ts.
          let s = sender_of ts q ws in
          finds a.clock q.inflight.due s o (λ k. k.1.1) (list_is a.clock q.inflight.due s o c.if-clock-gt-CLOCK_MAX.false w.result w.ensures e.0.0 e.0.1),
      (λ ts. ap (λ (f : Flight). with_flight f (sender_of ts q ws)) e.1.0, λ k. (k.0, e.1.1 k.1)),
      λ n. ap (λ (f : PayloadQueue). remade q.pending f q) (e.2 n),
    )
