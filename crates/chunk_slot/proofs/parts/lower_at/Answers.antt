-- One word is written where the stream is the chunk's; of another stream the chunk stays.
use mathlib.Core.Path.{◌∙◌, sym}
use native.Mathlib.Omega.{arith}
use lib.ListN.{get_or}
use borrow.Author.Tests.{ne_eqb}
use Rattle.model.specs.Rings.{lowered}
use Rattle.rows.specs.Adjusts.{adjust_same}
use Rattle.chunk_slot.specs.Chunks.{chunks, blank_chunk}
use Rattle.chunk_slot.specs.Changes.{adjust_past, stream_in_lem, lowered_other, lower_slot}
use Rattle.chunk_slot.proofs.parts.lower_at.Goals as goal

pub returns-then-room-i : goal.returns-then-room-i
returns-then-room-i c = let a = c.args in adjust_past (lowered a.stream) a.i a.cells.now (omega arith)

pub returns-then-marks-stream : goal.returns-then-marks-stream
returns-then-marks-stream c =
    let a = c.args in
    let ws = a.cells.now in
    let x = get_or (chunks ws) a.i blank_chunk in
    let q = stream_in_lem a.i ws (omega arith) in
    sym (adjust_same (lowered a.stream) a.i (chunks ws) blank_chunk (lowered_other a.stream x (ne_eqb _ _ (λ e. c.if-marks-stream.true (q ∙ e)))))

pub returns : goal.returns
returns c = let a = c.args in lower_slot a.i a.cells.now (omega arith) a.stream _ c.if-marks-stream.false c.one_lower-lower.ensures
