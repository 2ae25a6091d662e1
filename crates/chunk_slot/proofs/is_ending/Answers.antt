-- A bit of the marks.
use Rattle.chunk_slot.specs.Meaning.{ending_for}
use Rattle.chunk_slot.proofs.is_ending.Goals as goal

pub returns : goal.returns
returns c = ending_for c.args.words
