-- The words that are written mean the chunk.
use Rattle.chunk_slot.specs.Meaning.{written_for}
use Rattle.chunk_slot.proofs.write.Goals as goal

pub returns : goal.returns
returns c =
    let a = c.args in
    written_for a.i a.words a.cells.now c.write.ensures
