-- The rings' own call.
use mathlib.Core.Path.{ap}
use Rattle.model.specs.State.{Pending, with_pending}
use Rattle.outbound_queue.specs.Outbound.{sender_of}
use Rattle.outbound_queue.proofs.OutboundQueue.take_head.Goals as goal

pub returns : goal.returns
returns c =
    let a = c.args in
    let e = c.pop.ensures in
    ((λ ts. ap (λ (p : Pending). with_pending p (sender_of ts a.self.now a.cells.now)) e.0, λ h. (e.2 h.0, h.1)), e.1)
