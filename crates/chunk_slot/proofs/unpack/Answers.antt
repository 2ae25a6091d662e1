-- Field by field; the two moments are what `moment_of` ensures.
use Rattle.chunk_slot.specs.Marks.{marks_in}
use Rattle.chunk_slot.specs.Chunks.{chunk_from}
use Rattle.chunk_slot.specs.Meaning.{chunk_for}
use Rattle.chunk_slot.proofs.unpack.Goals as goal

pub returns : goal.returns
unfolding chunk_for chunk_from marks_in
returns c = rw (c.then_some.ensures, c.then_some-2.ensures)
