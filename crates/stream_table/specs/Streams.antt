-- A stream in a slot: six words, and two are left. Every eight words mean a stream, and every stream comes back from its words.
use Rattle.std.specs.Prelude.{◌≡◌, refl, Bool, List, ℕ, ◌+◌, ◌*◌, ◌/◌, ◌%◌, ◌≤◌, ◌<◌, get_or, Option}
use Rattle.std.proofs.Common.{sym, ap, ◌∙◌, add-zero, arith}
use Rattle.std.proofs.Math.ListN.{get_or-eq_default}
use Rattle.model.specs.declared.Stream.{Stream}
use Rattle.model.specs.Records.{make_stream}
pub use Rattle.model.specs.Records.{blank_stream}
use Rattle.cells.specs.Slots.{room_of, slots_of, slots_past, slots_get, word_at}
use Rattle.cells.specs.Words.{low_of, high_of, bit_of, bit_at, bit_small, bit_back}

-- where a stream stands, and the stream; or that there is none
abbrev pub Place : Type 0
Place = Option (ℕ × Stream)

-- the stream of six words; the last holds identifier, maximum, SSN, kind and a bit for unordered
unfoldable pub stream_of : (low high messages bytes amounts marks : ℕ) → Stream
stream_of low high messages bytes amounts marks =
    make_stream (marks % 65536) (marks / 65536 % 65536) (bit_at 72057594037927936 marks) (record { kind = marks / 281474976710656 % 256; value = low_of amounts })
    (marks / 4294967296 % 65536) (high_of amounts) low high (record { messages = messages; bytes = bytes })

-- the stream of a slot's words
abbrev pub stream_in : List ℕ → Stream
stream_in w = stream_of (get_or w 0 0) (get_or w 1 0) (get_or w 2 0) (get_or w 3 0) (get_or w 4 0) (get_or w 5 0)

-- what the slots of a slice hold, in order
abbrev pub streams : List ℕ → List Stream
streams ws = slots_of stream_in ws

-- a slot that is not there reads as one of 0s
pub blank_stream_lem : stream_of 0 0 0 0 0 0 ≡ blank_stream
unfolding stream_of
blank_stream_lem = refl

pub stream_past : (i : ℕ) (ws : List ℕ) → room_of ws ≤ i → get_or (streams ws) i blank_stream ≡ blank_stream
stream_past i ws h = get_or-eq_default (streams ws) blank_stream (slots_past stream_in i ws h)

-- slot i of the words, where there is one
pub stream_at : (i : ℕ) (ws : List ℕ) → i < room_of ws
    → stream_of (get_or ws (i * 8) 0) (get_or ws (i * 8 + 1) 0) (get_or ws (i * 8 + 2) 0) (get_or ws (i * 8 + 3) 0) (get_or ws (i * 8 + 4) 0) (get_or ws (i * 8 + 5) 0) ≡ get_or (streams ws) i blank_stream
stream_at i ws h =
    sym
    (slots_get stream_in i ws blank_stream h
    ∙ simp (word_at i 0 ws (omega arith), word_at i 1 ws (omega arith), word_at i 2 ws (omega arith), word_at i 3 ws (omega arith), word_at i 4 ws (omega arith), word_at i 5 ws (omega arith), add-zero))

-- a word of the settings
pub record Packed (n m s k : ℕ) (u : Bool) (r : ℕ) : Type 0 where
  pub word : r ≡ n + m * 65536 + s * 4294967296 + k * 281474976710656 + bit_of u * 72057594037927936
  pub identifier : n < 65536
  pub maximum : m < 65536
  pub ssn : s < 65536
  pub kind : k < 256

-- a word's part, where the bit is a number
module _ (n m s k u : ℕ) (hn : n < 65536) (hm : m < 65536) (hs : s < 65536) (hk : k < 256) (hu : u ≤ 1) where
  abbrev sum : ℕ
  sum = n + m * 65536 + s * 4294967296 + k * 281474976710656 + u * 72057594037927936

  record Parts : Type 0 where
    identifier : sum % 65536 ≡ n
    maximum : sum / 65536 % 65536 ≡ m
    ssn : sum / 4294967296 % 65536 ≡ s
    kind : sum / 281474976710656 % 256 ≡ k
    unordered : sum / 72057594037927936 % 2 ≡ u

  parts : Parts
  parts = record { identifier = omega arith; maximum = omega arith; ssn = omega arith; kind = omega arith; unordered = omega arith }

pub stream_back : (t : Stream) (amounts settings : ℕ) → low_of amounts ≡ t.reliability.value → high_of amounts ≡ t.buffered
    → Packed t.identifier t.maximum t.ssn t.reliability.kind t.unordered settings
    → stream_of t.low t.high t.statistics.messages t.statistics.bytes amounts settings ≡ t
unfolding stream_of
stream_back t amounts settings l h q =
    let p = parts t.identifier t.maximum t.ssn t.reliability.kind (bit_of t.unordered) q.identifier q.maximum q.ssn q.kind (bit_small t.unordered) in
    ap (stream_of t.low t.high t.statistics.messages t.statistics.bytes amounts) q.word
    ∙ λ i. make_stream (p.identifier i) (p.maximum i) (bit_back t.unordered _ p.unordered i) (record { kind = p.kind i; value = l i })
    (p.ssn i) (h i) t.low t.high t.statistics
