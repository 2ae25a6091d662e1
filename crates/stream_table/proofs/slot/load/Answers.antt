-- The words of slot i mean the i-th stream; past the end it is the blank one.
use mathlib.Core.Path.{◌∙◌, sym}
use native.Mathlib.Omega.{arith}
use Rattle.stream_table.specs.Streams.{blank_stream_lem, stream_past, stream_at}
use Rattle.stream_table.proofs.slot.load.Goals as goal

pub returns-then-room-i : goal.returns-then-room-i
returns-then-room-i c = let a = c.args in c.unpacked.ensures ∙ blank_stream_lem ∙ sym (stream_past a.i a.cells.now (omega arith))

pub returns : goal.returns
returns c = let a = c.args in c.unpacked-2.ensures ∙ stream_at a.i a.cells.now (omega arith)
