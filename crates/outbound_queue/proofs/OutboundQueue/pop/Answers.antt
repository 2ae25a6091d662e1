-- The flight's own call, of the whole sender.
use Rattle.outbound_queue.specs.Outbound.{sender_of}
use Rattle.outbound_queue.specs.Flights.{pop_is}
use Rattle.outbound_queue.proofs.OutboundQueue.pop.Goals as goal

pub returns : goal.returns
returns c =
    let a = c.args in
    let e = c.pop.ensures in
    (λ ts. pop_is a.tsn (sender_of ts a.self.now a.cells.now) e.0, λ h. (h.0, e.1 h.1))
