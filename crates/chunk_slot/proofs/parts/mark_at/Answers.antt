-- One word is written, and what `sent_again` ensures says that it means the model's change.
use native.Mathlib.Omega.{arith}
use Rattle.model.specs.Flight.{to_retransmit}
use Rattle.chunk_slot.specs.Changes.{adjust_past, mark_slot}
use Rattle.chunk_slot.proofs.parts.mark_at.Goals as goal

pub returns-then-room-i : goal.returns-then-room-i
returns-then-room-i c = let a = c.args in adjust_past to_retransmit a.i a.cells.now (omega arith)

pub returns : goal.returns
returns c = let a = c.args in mark_slot a.i a.cells.now (omega arith) _ c.sent_again-marks.ensures
