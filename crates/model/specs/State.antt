-- The sender's state, and what a call gives back.
use Rattle.std.specs.Prelude.{ℕ, ◌+◌, ◌-◌, ◌%◌, Bool, true, false, List, [], length, eqb}
use Rattle.std.proofs.Math.Option.{Option}
use Rattle.std.proofs.Math.ListN.{get_elem?}
use Rattle.limits.specs.Limits.{tsns}
use Rattle.model.specs.declared.Chunk.{Chunk}
use Rattle.model.specs.declared.Stream.{Stream}

-- the two rings of pending chunks
pub data Lane : Type 0 where
  Unordered Ordered : Lane

-- whether a message has been sent in part: then its rest stands in front of this ring
pub data UnderWay : Type 0 where
  Idle : UnderWay
  Sending : Lane → UnderWay

-- what is pending: the two rings, front first, and the ring whose front is the rest of a message that has been sent in part
pub record Pending : Type 0 where
  pub under_way : UnderWay
  pub unordered : List Chunk
  pub ordered : List Chunk

-- what is in flight, oldest first: entry i has the TSN (oldest + i) modulo 2 ^ 32
pub record Flight : Type 0 where
  pub oldest : ℕ
  pub entries : List Chunk

-- the next message's number; messages from `unstarted` on have not been seen by a start of lifetimes
pub record Numbers : Type 0 where
  pub next : ℕ
  pub unstarted : ℕ

pub record Sender : Type 0 where
  pub streams : List Stream
  pub pending : Pending
  pub flight : Flight
  pub numbers : Numbers

-- a fresh sender is given its first TSN and its first message number
abbrev pub fresh : (firstTsn firstMessage : ℕ) → Sender
fresh t n =
    record {
      streams = [];
      pending = record { under_way = Idle; unordered = []; ordered = [] };
      flight = record { oldest = t; entries = [] };
      numbers = record { next = n; unstarted = n };
    }

-- ---- one part of the state is another

abbrev pub with_streams : List Stream → Sender → Sender
with_streams l s = record { streams = l; pending = s.pending; flight = s.flight; numbers = s.numbers }

abbrev pub with_pending : Pending → Sender → Sender
with_pending p s = record { streams = s.streams; pending = p; flight = s.flight; numbers = s.numbers }

abbrev pub with_entries : List Chunk → Sender → Sender
with_entries f s =
    record { streams = s.streams; pending = s.pending; flight = record { oldest = s.flight.oldest; entries = f }; numbers = s.numbers }

abbrev pub with_numbers : Numbers → Sender → Sender
with_numbers n s = record { streams = s.streams; pending = s.pending; flight = s.flight; numbers = n }

-- ---- the parts that calls ask about

-- a ring
abbrev pub at : Lane → Pending → List Chunk
at Unordered p = p.unordered
at Ordered p = p.ordered

-- the ring of a message
abbrev pub lane_of : (unordered : Bool) → Lane
lane_of true = Unordered
lane_of false = Ordered

-- both rings, each changed by one function
abbrev pub in_rings : (List Chunk → List Chunk) → Pending → Pending
in_rings f p = record { under_way = p.under_way; unordered = f p.unordered; ordered = f p.ordered }

-- one ring is another, and so is what is under way
abbrev pub with_ring : Lane → UnderWay → List Chunk → Pending → Pending
with_ring Unordered w l p = record { under_way = w; unordered = l; ordered = p.ordered }
with_ring Ordered w l p = record { under_way = w; unordered = p.unordered; ordered = l }

abbrev pub next_tsn : Sender → ℕ
next_tsn s = (s.flight.oldest + length s.flight.entries) % tsns

-- the place in the flight of a TSN: past the end if it is not in flight
abbrev pub place : (tsn : ℕ) → Flight → ℕ
place t f = (t + tsns - f.oldest) % tsns

abbrev pub in_flight : (tsn : ℕ) → Flight → Option Chunk
in_flight t f = get_elem? f.entries (place t f)

-- whether a chunk is of a message
abbrev pub is_of : (number : ℕ) → Chunk → Bool
is_of n c = eqb c.message.number n

-- ---- what a call gives back: the state behind it and its answer

pub record Out (A : Type 0) : Type 0 where
  pub after : Sender
  pub says : A

-- an answer that changes nothing, as every refusal is
abbrev pub same : {A : Type 0} → A → Sender → Out A
same a s = record { after = s; says = a }
