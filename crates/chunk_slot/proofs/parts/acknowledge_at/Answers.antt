-- Two words are written, and what `acknowledged` of the marks ensures says that they mean the model's change.
use mathlib.Core.Path.{sym, ap}
use native.Mathlib.Omega.{arith}
use lib.ListN.{length-set}
use Rattle.model.specs.declared.Chunk.{Chunk}
use Rattle.model.specs.Flight.{acknowledged}
use Rattle.chunk_slot.specs.Chunks.{chunk_past}
use Rattle.chunk_slot.specs.Changes.{adjust_past, length_in, ack_slot}
use Rattle.chunk_slot.proofs.parts.acknowledge_at.Goals as goal

pub returns-then-room-i : goal.returns-then-room-i
returns-then-room-i c =
    let a = c.args in
    let ws = a.cells.now in
    (sym (ap (λ (x : Chunk). x.length) (chunk_past a.i ws (omega arith))), adjust_past acknowledged a.i ws (omega arith))

pub bounds-cells-at-4 : goal.bounds-cells-at-4
bounds-cells-at-4 c = simp length-set (omega arith)

pub returns : goal.returns
returns c =
    let a = c.args in
    let ws = a.cells.now in
    (length_in a.i ws (omega arith), ack_slot a.i ws (omega arith) _ c.acknowledged-marks.ensures)
