-- The rings' own call.
use mathlib.Core.Path.{ap}
use Rattle.model.specs.State.{Pending, with_pending}
use Rattle.outbound_queue.specs.Outbound.{sender_of}
use Rattle.outbound_queue.proofs.OutboundQueue.remove_pending.Goals as goal

pub returns : goal.returns
returns c =
    let a = c.args in
    let e = c.remove_message.ensures in
    ((λ ts. ap (λ (p : Pending). with_pending p (sender_of ts a.self.now a.cells.now)) e.0, λ h. (e.3 h.0, h.1)), e.1, e.2)
