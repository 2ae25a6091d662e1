-- The head is new, whatever the cells are.
use lib.ListN.{replicate}
use Rattle.sender.proofs.Sender.new.Goals as goal

pub returns : goal.returns
returns c = c.new.ensures (replicate 6656 0)
