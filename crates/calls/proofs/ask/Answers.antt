-- The answer is that of its own call, whatever the cells.
use Rattle.std.proofs.Common.{refl, ap}
use Rattle.model.specs.Calls.{number}
use Rattle.sender_head.specs.Whole.{sender_of}
use Rattle.calls.specs.Told.{answered, summed}
use Rattle.calls.proofs.ask.Goals as goal

pub returns-in-NextMessage : goal.returns-in-NextMessage
returns-in-NextMessage c = let h = c.args.h.now in let ws = c.args.cells.now in answered h (sender_of h ws) c.in-NextMessage.is refl (ap number (c.next_message.ensures ws))

pub returns-in-PendingBytes : goal.returns-in-PendingBytes
returns-in-PendingBytes c =
    let h = c.args.h.now in
    let ws = c.args.cells.now in
    summed h (sender_of h ws) c.in-PendingBytes.is refl (ap number c.pending_bytes.ensures.0) (λ z. ap number (c.pending_bytes.ensures.1 ws z))

pub returns-in-InflightBytes : goal.returns-in-InflightBytes
returns-in-InflightBytes c =
    let h = c.args.h.now in
    let ws = c.args.cells.now in
    summed h (sender_of h ws) c.in-InflightBytes.is refl (ap number c.inflight_bytes.ensures.0) (λ z. ap number (c.inflight_bytes.ensures.1 ws z))
