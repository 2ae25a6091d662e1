-- A loop that reads four in a turn: the stream is in the part if it is in what is left of it; the rest is read one by one.
use mathlib.Core.Path.{◌≡◌}
use Prim.Native.Nat.{◌-◌, ◌≤◌, min}
use Rattle.model.specs.Flight.{has_stream}
use Rattle.rows.specs.Parts.{part}
use Rattle.cells.specs.Slots.{room_of}
use Rattle.chunk_slot.specs.Chunks.{chunks}
use Rattle.ring.proofs.parts.among.Given as goal

abbrev pub invariant-loop-at : goal.invariant-loop-at
invariant-loop-at l =
    (l.at ≤ l.end) × (l.end ≡ min l.to (room_of l.cells)) × (has_stream l.stream (part l.at l.to (chunks l.cells)) ≡ has_stream l.stream (part l.from l.to (chunks l.cells)))

abbrev pub decreases-loop-at : goal.decreases-loop-at
decreases-loop-at l = l.end - l.at
