-- The flight's own call, of the whole sender; the rings stay.
use Prim.Native.Nat.{◌+◌}
use Rattle.rows.specs.Parts.{patch}
use Rattle.outbound_queue.specs.Outbound.{third, remade, sender_of, flight_back, sender_by, counted_by_lem}
use Rattle.outbound_queue.specs.Flights.{acked_is}
use borrow.Author.Rules.{rules}
use Rattle.outbound_queue.proofs.OutboundQueue.mark_as_acked.Goals as goal

pub returns : goal.returns
returns c =
    let a = c.args in
    let m = c.mark_as_acked in
    let e = m.ensures in
    let ws = a.cells.now in
    let p = m.new.cells in
    let k = third ws in
    let q = remade a.self.now.pending m.new.self a.self.now in
    let b = flight_back ws p (search rules) in (
      λ ts. acked_is a.tsn (sender_of ts a.self.now ws) (sender_by ts q (patch (k + k) (k + k + k) ws p) b) e.0 e.1,
      λ h. counted_by_lem q (patch (k + k) (k + k + k) ws p) b (h.0, e.2 h.1),
    )
