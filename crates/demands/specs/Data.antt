-- The DATA chunk that is written of an entry: when it is, when it is refused, and that it reads back as the entry.
use Rattle.std.specs.Prelude.{ℕ, ◌+◌, ◌≤◌, ◌<◌, ◌≡◌, true, List, ◌++◌, length, take, drop, Ok}
use Rattle.std.proofs.Math.Option.{some}
use Rattle.std.proofs.Common.{arith, length-append, length-drop, length-take-le}
use Rattle.std.proofs.lemmas.List.{length-replicate}
use Rattle.limits.specs.Limits.{Room, number_max, tsns}
use Rattle.octets.specs.Numbers.{zeros}
use Rattle.model.specs.declared.Chunk.{Chunk}
use Rattle.model.specs.State.{Sender, in_flight}
use Rattle.model.specs.Messages.{flags}
use Rattle.model.specs.Flight.{outstanding}
use Rattle.model.specs.Requests.{Request}
use Rattle.model.specs.Data.{padding, data_header, payload_of, data_bytes, unwritten, data_chunk, read_data, payload_in}
use Rattle.demands.specs.Words.{Each}
use Rattle.demands.specs.Requests.{TypedRequest, served_from}
use Rattle.limits.specs.declared.Refusal.TheVariants.{NoEntry, PayloadOutside, OutputShort}
use Rattle.model.specs.Answers.{data_fields}

-- the TSN's entry is in flight, and neither acknowledged nor abandoned
pub record ToSend (tsn : ℕ) (s : Sender) (c : Chunk) : Type 0 where
  pub entry : in_flight tsn s.flight ≡ some c
  pub outstanding : outstanding c ≡ true

-- the bytes of its chunk, padding included
abbrev pub data_size : Chunk → ℕ
data_size c = 16 + c.length + padding c.length

-- so many there are, where the payload lies within the bytes lent
module _ (tsn : ℕ) (c : Chunk) (bytes : List ℕ) (within : c.offset + c.length ≤ length bytes) where
  pub payload_length : length (payload_of c bytes) ≡ c.length
  payload_length = length-take-le c.length (drop c.offset bytes) (omega (arith, length-drop c.offset bytes))

  pub data_length : length (data_bytes tsn c bytes) ≡ data_size c
  data_length =
      let a = length-append (data_header tsn c) (payload_of c bytes ++ zeros (padding c.length)) in
      let b = length-append (payload_of c bytes) (zeros (padding c.length)) in
      let z = length-replicate {A = ℕ} (padding c.length) 0 in
      omega (arith, a, b, z, payload_length)

-- in any state, whatever is lent: exactly one of these is so, and a refusal leaves the output
pub record DataIsWritten : Type 0 where
  pub no_entry : (tsn : ℕ) (bytes out : List ℕ) (s : Sender) → ((c : Chunk) → ToSend tsn s c → ⊥) → data_chunk tsn bytes out s ≡ unwritten NoEntry out
  pub outside : (tsn : ℕ) (bytes out : List ℕ) (s : Sender) (c : Chunk) → ToSend tsn s c → length bytes < c.offset + c.length
      → data_chunk tsn bytes out s ≡ unwritten PayloadOutside out
  pub short : (tsn : ℕ) (bytes out : List ℕ) (s : Sender) (c : Chunk) → ToSend tsn s c → c.offset + c.length ≤ length bytes → length out < data_size c
      → data_chunk tsn bytes out s ≡ unwritten OutputShort out
  pub written : (tsn : ℕ) (bytes out : List ℕ) (s : Sender) (c : Chunk) → ToSend tsn s c → c.offset + c.length ≤ length bytes → data_size c ≤ length out
      → data_chunk tsn bytes out s ≡ record { answer = Ok (data_size c); out = data_bytes tsn c bytes ++ drop (data_size c) out }

-- the n bytes in front of `after`, written over `before`, are the entry's chunk: TSN, stream, SSN, flags, type and payload read back; zeros stand
-- behind the payload up to the n, and all behind these is as it was
pub record ReadsBack (tsn : ℕ) (c : Chunk) (bytes before : List ℕ) (n : ℕ) (after : List ℕ) : Type 0 where
  pub fields : read_data after ≡ data_fields tsn c.message.stream c.message.ssn (flags c) c.message.protocol c.length
  pub payload : payload_in after ≡ payload_of c bytes
  pub whole : length (payload_of c bytes) ≡ c.length
  pub size : n ≡ data_size c
  pub padded : take (padding c.length) (drop (16 + c.length) after) ≡ zeros (padding c.length)
  pub behind : drop n after ≡ drop n before

-- behind any requests from a fresh sender, whatever is lent: what is written for a TSN is the chunk of its entry, and reads back as that
abbrev pub WrittenReadsBack : Type 0
WrittenReadsBack =
    (room : Room) (firstTsn firstMessage : ℕ) → firstTsn < tsns → firstMessage ≤ number_max → (rs : List Request) → Each TypedRequest rs →
    let s = served_from room firstTsn firstMessage rs in
    (tsn : ℕ) (bytes out : List ℕ) (n : ℕ) → (data_chunk tsn bytes out s).answer ≡ Ok n
    → (c : Chunk) × ToSend tsn s c × ReadsBack tsn c bytes out n (data_chunk tsn bytes out s).out
