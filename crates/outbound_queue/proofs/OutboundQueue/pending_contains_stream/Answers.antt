-- The rings' own call, on their thirds of the cells.
use Rattle.outbound_queue.proofs.OutboundQueue.pending_contains_stream.Goals as goal

pub returns : goal.returns
returns c = c.contains_stream.ensures
