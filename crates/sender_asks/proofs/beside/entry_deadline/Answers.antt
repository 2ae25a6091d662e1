-- The cases of `entry_deadline`.
use Rattle.sender_asks.specs.Beside.{abandoned_none, other_has}
use Rattle.sender_asks.proofs.beside.entry_deadline.Goals as goal

pub returns-then-chunk : goal.returns-then-chunk
returns-then-chunk c = abandoned_none c.args.chunk c.if-chunk.true

pub returns-else-chunk : goal.returns-else-chunk
returns-else-chunk c = other_has c.args.chunk c.if-chunk.false
