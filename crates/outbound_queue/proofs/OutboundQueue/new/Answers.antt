-- Each part is new.
use Rattle.outbound_queue.specs.Outbound.{rings_in, new_is}
use Rattle.outbound_queue.proofs.OutboundQueue.new.Goals as goal

pub returns : goal.returns
returns c =
    let a = c.args in
    let p = c.new.ensures in
    let f = c.new-2.ensures in
    λ ts ws.
    let r = rings_in ws in
    let x = p r.unordered r.ordered in
    let y = f r.flight in
    (new_is ts a.tsn a.number x.0 y.0, (x.1, y.1))
