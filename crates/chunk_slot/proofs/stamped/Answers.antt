-- Three words are others, and mean the model's change.
use Rattle.chunk_slot.specs.Meaning.{stamped_for}
use Rattle.chunk_slot.proofs.stamped.Goals as goal

pub returns : goal.returns
returns c = let a = c.args in stamped_for a.words a.clock _ c.with_since.ensures
