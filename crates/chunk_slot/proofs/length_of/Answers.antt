-- The lower half of the sizes.
use Rattle.chunk_slot.specs.Meaning.{length_for}
use Rattle.chunk_slot.proofs.length_of.Goals as goal

pub returns : goal.returns
returns c = length_for c.args.words
