-- The flight came back; the rings stay.
use mathlib.Core.Path.{ap, ◌∙◌}
use Prim.Native.Nat.{ℕ, ◌+◌}
use Rattle.model.specs.State.{Flight}
use Rattle.rows.specs.Parts.{patch}
use Rattle.chunk_slot.specs.Meaning.{chunk_for}
use Rattle.payload_queue.specs.Queue.{filed}
use Rattle.payload_queue.specs.Model.{with_flight}
use Rattle.outbound_queue.specs.Outbound.{third, rings_in, flying, remade, sender_of, flight_room_lem, flight_back, sender_by, counted_by_lem}
use borrow.Author.Rules.{rules}
use Rattle.outbound_queue.proofs.OutboundQueue.file.Goals as goal

pub returns : goal.returns
returns c =
    let a = c.args in
    let m = c.push in
    let e = m.ensures in
    let q = remade a.self.now.pending m.new.self a.self.now in
    let ws = a.cells.now in
    let k = third ws in
    let p = m.new.cells in
    let b = flight_back ws p (search rules) in
    let vs = patch (k + k) (k + k + k) ws p in
    let f = e.0 ∙ ap (λ (n : ℕ). filed n (chunk_for a.words) (flying a.self.now (rings_in ws))) (flight_room_lem ws) in (
      λ ts. sender_by ts q vs b ∙ ap (λ (f : Flight). with_flight f (sender_of ts a.self.now ws)) f,
      λ h. counted_by_lem q vs b (h.0, e.1 h.1),
    )
