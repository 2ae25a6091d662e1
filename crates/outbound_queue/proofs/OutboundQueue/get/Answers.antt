-- The flight's own call, on its third of the cells.
use Rattle.outbound_queue.proofs.OutboundQueue.get.Goals as goal

pub returns : goal.returns
returns c = c.get.ensures
