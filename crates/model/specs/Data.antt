-- The DATA chunk of an entry, as RFC 9260, section 3.3.1, lays it out: written into lent bytes, and read. Nothing of the sender changes.
use Rattle.std.specs.Prelude.{ℕ, ◌+◌, ◌-◌, ◌%◌, Bool, ◌&&◌, List, [], ◌∷◌, ◌++◌, length, take, drop, leb, ltb, eqb, None, Ok, Err}
use Rattle.std.proofs.Math.Option.{Option, none, some}
use Rattle.limits.specs.Limits.{ssns}
use Rattle.octets.specs.Numbers.{byte_at, short_at, long_at, short_bytes, long_bytes, zeros}
use Rattle.model.specs.declared.Chunk.{Chunk}
use Rattle.model.specs.Lists.{when◌then◌else◌}
use Rattle.model.specs.State.{Sender, in_flight}
use Rattle.model.specs.Messages.{flags}
use Rattle.model.specs.Flight.{outstanding}
use Rattle.limits.specs.declared.Refusal.TheVariants.{NoEntry, PayloadOutside, OutputShort}
use Rattle.limits.specs.declared.Refusal.{Refusal}
use Rattle.model.specs.Answers.{Laid, Data, data_fields}

-- ---- the chunk: type 0, the flags, the length without padding, TSN, stream, SSN, payload type; the payload; zeros up to a multiple of four

abbrev pub padding : (length : ℕ) → ℕ
padding n = (4 - n % 4) % 4

abbrev pub data_header : (tsn : ℕ) → Chunk → List ℕ
data_header t c =
    (0 ∷ flags c ∷ []) ++ short_bytes ((16 + c.length) % ssns) ++ long_bytes t ++ short_bytes c.message.stream ++ short_bytes c.message.ssn ++ long_bytes c.message.protocol

-- the bytes that an entry names
abbrev pub payload_of : Chunk → (bytes : List ℕ) → List ℕ
payload_of c l = take c.length (drop c.offset l)

abbrev pub data_bytes : (tsn : ℕ) → Chunk → (bytes : List ℕ) → List ℕ
data_bytes t c l = data_header t c ++ payload_of c l ++ zeros (padding c.length)

-- ---- what a call that writes a chunk gives back: its answer, and the lent output

pub record Output : Type 0 where
  pub answer : Laid
  pub out : List ℕ

-- a refusal leaves the output
abbrev pub unwritten : Refusal → (out : List ℕ) → Output
unwritten n out = record { answer = Err n; out = out }

-- 17, or the chunk stands in front, and the bytes behind it stay
abbrev pub laid_out : (chunk out : List ℕ) → Output
laid_out l out = when ltb (length out) (length l) then unwritten OutputShort out else record { answer = Ok (length l); out = l ++ drop (length l) out }

-- ---- write the DATA chunk of a TSN: 15, 16, 17

abbrev pub data_laid : (tsn : ℕ) → Chunk → (bytes out : List ℕ) → Output
data_laid t c l out = when ltb (length l) (c.offset + c.length) then unwritten PayloadOutside out else laid_out (data_bytes t c l) out

-- of an entry that is neither acknowledged nor abandoned
abbrev pub data_of_entry : Option Chunk → (tsn : ℕ) → (bytes out : List ℕ) → Output
data_of_entry none t l out = unwritten NoEntry out
data_of_entry (some c) t l out = when outstanding c then data_laid t c l out else unwritten NoEntry out

unfoldable pub data_chunk : (tsn : ℕ) → (bytes out : List ℕ) → Sender → Output
data_chunk t l out s = data_of_entry (in_flight t s.flight) t l out

-- ---- read a DATA chunk

-- type 0, and as many bytes as the length field says, which counts the header
abbrev pub is_data : List ℕ → Bool
is_data p = leb 16 (length p) && (eqb (byte_at 0 p) 0 && (leb 16 (short_at 2 p) && leb (short_at 2 p) (length p)))

abbrev pub fields_of : List ℕ → Data
fields_of p = data_fields (long_at 4 p) (short_at 8 p) (short_at 10 p) (byte_at 1 p) (long_at 12 p) (short_at 2 p - 16)

abbrev pub read_data : List ℕ → Data
read_data p = when is_data p then fields_of p else None

-- its payload
abbrev pub payload_in : List ℕ → List ℕ
payload_in p = take (short_at 2 p - 16) (drop 16 p)
