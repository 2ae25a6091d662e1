-- An abandonment as the code makes it, of any state at all: the run of a message's entries around a place and its leading run in each ring go for
-- all of its chunks, and its terminator is filed where there is room. In a `Good` state it is the model's call.
use Rattle.std.specs.Prelude.{◌≡◌, List, ℕ, ◌+◌, None}
use Rattle.std.proofs.Math.Option.{Option, none, some}
use Rattle.limits.specs.Limits.{Room}
use Rattle.model.specs.declared.Chunk.{Chunk}
use Rattle.model.specs.declared.Stream.{Stream}
use Rattle.model.specs.Lists.{when◌then◌else◌, last}
use Rattle.model.specs.State.{Sender, Flight, Out, same, place, in_flight}
use Rattle.model.specs.Rings.{bytes, terminator}
use Rattle.payload_queue.specs.Queue.{changed, filed}
use Rattle.payload_queue.specs.OneRun.{given_up_near, held_near}
use Rattle.pending_queue.specs.Runs.{runs, without_runs}
use Rattle.outbound_queue.specs.declared.OutboundQueue.{OutboundQueue}
use Rattle.outbound_queue.specs.Outbound.{ring_room, sender_of, Counted}
use Rattle.model.specs.Answers.{Abandoned, abandoned_message}

-- behind the removed chunks a terminator, where there is room
abbrev pub closed_by : (room : ℕ) → (lastRemoved : Option Chunk) → Flight → Flight
closed_by room none f = f
closed_by room (some c) f = filed room (terminator c) f

-- in flight the run of the message's entries around a place is given up
unfoldable pub leanly_abandoned : Room → (number near : ℕ) → Sender → Sender
leanly_abandoned room n i s =
    record {
      streams = s.streams;
      pending = without_runs n s.pending;
      flight = closed_by room.flight (last (runs n s.pending)) (changed (given_up_near n i) s.flight);
      numbers = s.numbers;
    }

-- the bytes that it held
unfoldable pub leanly_held : (number near : ℕ) → Sender → ℕ
leanly_held n i s = held_near n i s.flight.entries + bytes (runs n s.pending)

-- a message is given up, whatever the streams are, where the flight has the cells' room: what it held is told, and the counters of bytes stay sums
abbrev pub GivesUp : (number near : ℕ) → OutboundQueue → List ℕ → OutboundQueue → List ℕ → (held : ℕ) → Type 0
GivesUp n i q ws q' ws' held =
    ((room : Room) (ts : List Stream) → room.flight ≡ ring_room ws → (sender_of ts q' ws' ≡ leanly_abandoned room n i (sender_of ts q ws)) × (held ≡ leanly_held n i (sender_of ts q ws)))
    × (Counted q ws → Counted q' ws')

abbrev pub leanly_abandoning : Option Chunk → Room → (near : ℕ) → Sender → Out Abandoned
leanly_abandoning none room i s = same None s
leanly_abandoning (some c) room i s =
    let x = c.message in
    when c.abandoned then same (abandoned_message x.stream 0) s else
    record { after = leanly_abandoned room x.number i s; says = abandoned_message x.stream (leanly_held x.number i s) }

unfoldable pub lean_abandon : Room → (tsn : ℕ) → Sender → Out Abandoned
lean_abandon room t s = leanly_abandoning (in_flight t s.flight) room (place t s.flight) s
