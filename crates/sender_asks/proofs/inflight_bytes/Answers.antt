-- The queue's answer.
use Rattle.sender_head.specs.Whole.{halves}
use Rattle.sender_asks.proofs.inflight_bytes.Goals as goal

pub returns : goal.returns
returns c = let m = c.inflight_bytes.ensures in (m.0, λ ws k. m.1 (halves ws).queue k)
