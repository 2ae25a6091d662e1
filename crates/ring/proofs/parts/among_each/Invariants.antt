-- A loop that reads: the stream is in the part if it is in what is left of it.
use mathlib.Core.Path.{◌≡◌}
use Rattle.model.specs.Flight.{has_stream}
use Rattle.rows.specs.Parts.{part}
use Rattle.chunk_slot.specs.Chunks.{chunks}
use Rattle.ring.proofs.parts.among_each.Given as goal

abbrev pub invariant-loop-at : goal.invariant-loop-at
invariant-loop-at l = has_stream l.stream (part l.at l.to (chunks l.cells)) ≡ has_stream l.stream (part l.from l.to (chunks l.cells))
