-- The cases of `due_of`.
use mathlib.Core.Path.{◌∙◌, refl}
use Rattle.payload_queue.specs.Dues.{due_none, due_some}
use Rattle.payload_queue.proofs.due_of.Goals as goal

pub returns-then-chunk : goal.returns-then-chunk
returns-then-chunk c = due_none c.args.chunk c.if-chunk.true

pub returns-else-chunk : goal.returns-else-chunk
returns-else-chunk c = c.unwrap_or.ensures ∙ due_some c.args.chunk c.if-chunk.false refl
