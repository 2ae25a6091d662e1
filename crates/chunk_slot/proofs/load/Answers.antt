-- The chunk of the words that are read.
use mathlib.Core.Path.{◌∙◌}
use Rattle.chunk_slot.proofs.load.Goals as goal

pub returns : goal.returns
returns c = c.unpack.ensures ∙ c.read.ensures
