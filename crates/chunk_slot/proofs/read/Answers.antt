-- The words of slot i mean the i-th chunk; past the end it is the blank one.
use mathlib.Core.Path.{◌∙◌, sym}
use native.Mathlib.Omega.{arith}
use Rattle.chunk_slot.specs.Chunks.{blank_chunk_lem, chunk_past, chunk_at}
use Rattle.chunk_slot.specs.Meaning.{chunk_for}
use Rattle.chunk_slot.proofs.read.Goals as goal

pub returns-then-room-i : goal.returns-then-room-i
unfolding chunk_for
returns-then-room-i c = let a = c.args in blank_chunk_lem ∙ sym (chunk_past a.i a.cells.now (omega arith))

pub returns : goal.returns
unfolding chunk_for
returns c = let a = c.args in chunk_at a.i a.cells.now (omega arith)
