-- Every number stays in its type, which the packing into cells leans on.
use Rattle.std.specs.Prelude.{ℕ, ◌+◌, ◌^◌, ◌≤◌, ◌<◌, List, Some, None}
use Rattle.limits.specs.Limits.{Room, clock_max, setting_max, offset_max, buffered_max, payload_max, number_max, tsns, ssns}
use Rattle.model.specs.declared.Chunk.{Chunk}
use Rattle.model.specs.declared.Message.{Message}
use Rattle.model.specs.declared.Reliability.{Reliability}
use Rattle.model.specs.declared.Stream.{Stream}
use Rattle.model.specs.State.{Sender, fresh, at, Lane}
use Rattle.model.specs.Calls.{
  Call,
  Open,
  SetReliability,
  SetLow,
  SetHigh,
  Write,
  Release,
  StartLifetimes,
  Send,
  ExpirePending,
  ExpirePendingTail,
  Abandon,
  Acknowledge,
  Pop,
  MarkAll,
  Ask,
  run,
}
use Rattle.demands.specs.Words.{Each}
use Rattle.limits.specs.Moments.{Moment}

-- the arguments of a call fit their types: identifiers u16, payload types u32, kinds u8, values u32, thresholds u64. Numbers that a
-- call refuses or only compares are free
abbrev pub Typed : Call → Type 0
Typed (Open id m) = id < 2 ^ 16
Typed (SetReliability id u k v) = (k < 2 ^ 8) × (v < 2 ^ 32)
Typed (SetLow id x) = x < 2 ^ 64
Typed (SetHigh id x) = x < 2 ^ 64
Typed (Write id p o l) = p < 2 ^ 32
Typed (Release id r) = Unit
Typed (StartLifetimes now) = Unit
Typed (Send now) = Unit
Typed (ExpirePending now) = Unit
Typed (ExpirePendingTail now) = Unit
Typed (Abandon t) = Unit
Typed (Acknowledge t) = Unit
Typed (Pop t) = Unit
Typed MarkAll = Unit
Typed (Ask q) = Unit

-- a deadline is at most 2 ^ 40 + 4,294,967,295; the time of a send at most 2 ^ 40
abbrev pub AtMost : ℕ → Moment → Type 0
AtMost n None = Unit
AtMost n (Some d) = d ≤ n

pub record ReliabilityFits (r : Reliability) : Type 0 where
  pub kind : r.kind < 2 ^ 8
  pub value : r.value < 2 ^ 32

pub record MessageFits (x : Message) : Type 0 where
  pub stream : x.stream < 2 ^ 16
  pub ssn : x.ssn < ssns
  pub protocol : x.protocol < 2 ^ 32
  pub number : x.number < number_max
  pub reliability : ReliabilityFits x.reliability
  pub deadline : AtMost (clock_max + setting_max) x.deadline

-- an offset is below, and its chunk's end at most, the offset limit and the longest message together
pub record ChunkFits (room : Room) (c : Chunk) : Type 0 where
  pub message : MessageFits c.message
  pub offset : c.offset < offset_max + room.message
  pub reach : c.offset + c.length ≤ offset_max + room.message
  pub length : c.length ≤ payload_max
  pub since : AtMost clock_max c.since
  pub nsent : c.nsent ≤ 1

pub record StreamFits (t : Stream) : Type 0 where
  pub identifier : t.identifier < 2 ^ 16
  pub least : 1 ≤ t.maximum
  pub most : t.maximum ≤ payload_max
  pub reliability : ReliabilityFits t.reliability
  pub ssn : t.ssn < ssns
  pub buffered : t.buffered ≤ buffered_max
  pub low : t.low < 2 ^ 64
  pub high : t.high < 2 ^ 64
  pub messages : t.statistics.messages ≤ number_max
  pub bytes : t.statistics.bytes ≤ number_max

pub record Fits (room : Room) (s : Sender) : Type 0 where
  pub streams : Each StreamFits s.streams
  pub pending : (l : Lane) → Each (ChunkFits room) (at l s.pending)
  pub flying : Each (ChunkFits room) s.flight.entries
  pub next : s.numbers.next ≤ number_max
  pub unstarted : s.numbers.unstarted ≤ s.numbers.next
  pub oldest : s.flight.oldest < tsns

abbrev pub NumbersFit : Type 0
NumbersFit = (room : Room) (firstTsn firstMessage : ℕ) → firstTsn < tsns → firstMessage ≤ number_max → (ks : List Call) → Each Typed ks
    → Fits room (run room ks (fresh firstTsn firstMessage))
