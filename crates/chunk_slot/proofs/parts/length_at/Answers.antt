-- A field of the chunk that the words mean; past the end it is the blank one's.
use mathlib.Core.Path.{sym, ap}
use native.Mathlib.Omega.{arith}
use Rattle.model.specs.declared.Chunk.{Chunk}
use Rattle.chunk_slot.specs.Chunks.{chunk_past}
use Rattle.chunk_slot.specs.Changes.{length_in}
use Rattle.chunk_slot.proofs.parts.length_at.Goals as goal

pub returns-then-room-i : goal.returns-then-room-i
returns-then-room-i c = let a = c.args in sym (ap (λ (x : Chunk). x.length) (chunk_past a.i a.cells.now (omega arith)))

pub returns : goal.returns
returns c = let a = c.args in length_in a.i a.cells.now (omega arith)
