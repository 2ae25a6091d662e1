-- The flight came back; the rings stay.
use mathlib.Core.Path.{ap, ◌∙◌}
use Prim.Native.Nat.{◌+◌}
use Rattle.model.specs.State.{Flight}
use Rattle.rows.specs.Parts.{patch}
use Rattle.payload_queue.specs.Model.{with_flight}
use Rattle.outbound_queue.specs.Outbound.{third, remade, sender_of, flight_back, sender_by, counted_by_lem}
use borrow.Author.Rules.{rules}
use Rattle.outbound_queue.proofs.OutboundQueue.give_up_entries.Goals as goal

pub returns : goal.returns
returns c =
    let a = c.args in
    let m = c.abandon_message in
    let e = m.ensures in
    let q = remade a.self.now.pending m.new.self a.self.now in
    let ws = a.cells.now in
    let k = third ws in
    let p = m.new.cells in
    let b = flight_back ws p (search rules) in
    let vs = patch (k + k) (k + k + k) ws p in (
      (λ ts. sender_by ts q vs b ∙ ap (λ (f : Flight). with_flight f (sender_of ts a.self.now ws)) e.0, λ h. counted_by_lem q vs b (h.0, e.2 h.1)),
      e.1,
    )
