-- A chunk in a slot: seven words, and the eighth is left. Every eight words mean a chunk, and every chunk comes back from its words.
use Rattle.std.specs.Prelude.{◌≡◌, refl, Bool, List, ℕ, ◌+◌, ◌*◌, ◌≤◌, ◌<◌, length, get_or}
use Rattle.std.proofs.Common.{sym, ap, ◌∙◌, add-zero, arith}
use Rattle.std.proofs.Math.ListN.{get_or-eq_default}
use Rattle.limits.specs.Moments.{present, time_of, moment_of, moment_back}
use Rattle.model.specs.declared.Chunk.{Chunk}
use Rattle.model.specs.Records.{make_message, renewed, make_chunk, with_message, sent_as}
pub use Rattle.model.specs.Records.{blank_chunk}
use Rattle.cells.specs.Slots.{room_of, slots_of, slots_past, slots_get, word_at}
use Rattle.cells.specs.Words.{low_of, high_of, flags_of}
use Rattle.chunk_slot.specs.Marks.{Marks, marks_in, marks_word, marks_back}

-- a word of the small fields, where the flags are two numbers
pub record Packed (n s k p f r : ℕ) : Type 0 where
  pub word : r ≡ n + s * 65536 + k * 4294967296 + p * 1099511627776 + f * 17592186044416
  pub stream : n < 65536
  pub ssn : s < 65536
  pub kind : k < 256

-- ---- a chunk of its parts

unfoldable pub chunk_from : (number deadline since offset protocol value length nsent : ℕ) → Marks → Chunk
chunk_from number deadline since offset protocol value length nsent x =
    make_chunk (make_message x.stream x.ssn x.unordered protocol number (record { kind = x.kind; value = value }) (moment_of x.timed deadline))
    x.beginning x.ending offset length (moment_of x.sent since) nsent x.acked x.abandoned x.retransmit

-- the chunk of seven words
abbrev pub chunk_of : (number deadline since offset types sizes marks : ℕ) → Chunk
chunk_of number deadline since offset types sizes marks =
    chunk_from number deadline since offset (low_of types) (high_of types) (low_of sizes) (high_of sizes) (marks_in marks)

-- the chunk of a slot's words
abbrev pub chunk_in : List ℕ → Chunk
chunk_in w = chunk_of (get_or w 0 0) (get_or w 1 0) (get_or w 2 0) (get_or w 3 0) (get_or w 4 0) (get_or w 5 0) (get_or w 6 0)

-- what the slots of a slice hold, in order
abbrev pub chunks : List ℕ → List Chunk
chunks ws = slots_of chunk_in ws

-- a slot that is not there reads as one of 0s
pub blank_chunk_lem : chunk_of 0 0 0 0 0 0 0 ≡ blank_chunk
unfolding chunk_from marks_in
blank_chunk_lem = refl

pub chunk_past : (i : ℕ) (ws : List ℕ) → room_of ws ≤ i → get_or (chunks ws) i blank_chunk ≡ blank_chunk
chunk_past i ws h = get_or-eq_default (chunks ws) blank_chunk (slots_past chunk_in i ws h)

-- slot i of the words, where there is one
pub chunk_at : (i : ℕ) (ws : List ℕ) → i < room_of ws
    → chunk_of (get_or ws (i * 8) 0) (get_or ws (i * 8 + 1) 0) (get_or ws (i * 8 + 2) 0) (get_or ws (i * 8 + 3) 0) (get_or ws (i * 8 + 4) 0) (get_or ws (i * 8 + 5) 0) (get_or ws (i * 8 + 6) 0) ≡ get_or (chunks ws) i blank_chunk
chunk_at i ws h =
    sym
    (slots_get chunk_in i ws blank_chunk h
    ∙ simp (word_at i 0 ws (omega arith), word_at i 1 ws (omega arith), word_at i 2 ws (omega arith), word_at i 3 ws (omega arith), word_at i 4 ws (omega arith), word_at i 5 ws (omega arith), word_at i 6 ws (omega arith), add-zero))

-- ---- a chunk comes back from its words

-- the small fields of a chunk
abbrev pub marks_of : Chunk → Marks
marks_of c =
    record { stream = c.message.stream; ssn = c.message.ssn; kind = c.message.reliability.kind; unordered = c.message.unordered; beginning = c.beginning; ending = c.ending; acked = c.acked; abandoned = c.abandoned; retransmit = c.retransmit; timed = present c.message.deadline; sent = present c.since }

whole : (c : Chunk) → chunk_from c.message.number (time_of c.message.deadline) (time_of c.since) c.offset c.message.protocol c.message.reliability.value c.length c.nsent (marks_of c) ≡ c
unfolding chunk_from
whole c =
    let x = c.message in
    λ i. sent_as (moment_back c.since i) c.nsent (with_message (renewed x.ssn (moment_back x.deadline i) x) c)

-- the words of which a chunk is stored, and the numbers and flags on the way to them
pub record Stored (c : Chunk) (d s t z p f m : ℕ) (a b : Bool) : Type 0 where
  pub due : d ≡ time_of c.message.deadline
  pub sent : s ≡ time_of c.since
  pub types : (low_of t ≡ c.message.protocol) × (high_of t ≡ c.message.reliability.value)
  pub sizes : (low_of z ≡ c.length) × (high_of z ≡ c.nsent)
  pub timed : a ≡ present c.message.deadline
  pub flown : b ≡ present c.since
  pub pending : p ≡ flags_of c.message.unordered c.beginning c.ending c.acked
  pub flying : f ≡ flags_of c.abandoned c.retransmit a b
  pub marks : Packed c.message.stream c.message.ssn c.message.reliability.kind p f m

pub chunk_back : (c : Chunk) {d s t z p f m : ℕ} {a b : Bool} → Stored c d s t z p f m a b → chunk_of c.message.number d s c.offset t z m ≡ c
unfolding marks_word
chunk_back c {p = p} {f = f} {m = m} {a = a} {b = b} q =
    let flying : f ≡ flags_of c.abandoned c.retransmit (present c.message.deadline) (present c.since) = cc in
    let w : m ≡ marks_word (marks_of c) + 0 * 281474976710656 = omega (arith, q.marks.word, q.pending) in
    let x = ap marks_in w ∙ marks_back (marks_of c) 0 q.marks.stream q.marks.ssn q.marks.kind in
    cc (whole c)
