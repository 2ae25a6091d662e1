-- The queue is new, and no stream is open.
use mathlib.Core.List.{[]}
use Rattle.sender_head.specs.Whole.{halves}
use Rattle.sender_head.proofs.Head.new.Goals as goal

pub returns : goal.returns
returns c = let e = c.new.ensures in λ ws. e [] (halves ws).queue
