-- The words of an answer: what kind it is (1 to 15), which case of it (0 is a refusal, or nothing), and its numbers; then the chunk or the
-- TSNs that it yields. Each number has a word of its own, and the kind and the case tell how many words there are, so that an answer can be
-- read back (`WordsTell` of Back.antt).
use Rattle.std.specs.Prelude.{Bool, List, [], ◌∷◌, ℕ, length, Result, Some, None, Ok, Err}
use Rattle.model.specs.declared.Chunk.{Chunk}
use Rattle.model.specs.declared.Message.{Message}
use Rattle.model.specs.Calls.{Answer, to_do, to_write, to_release, to_send, to_expire, to_expire_tail, to_abandon, to_find, to_seek, to_measure, to_count, to_list, number, yes_no}
use Rattle.model.specs.Requests.{Reply, answered, sacked}
use Rattle.cells.specs.Words.{bit_of}
use Rattle.limits.specs.Moments.{Moment, present, time_of}
use Rattle.limits.specs.Refusals.{refusal_number}
use Rattle.limits.specs.declared.Refusal.{Refusal}

-- whether there is one
abbrev pub is_there : Moment → ℕ
is_there m = bit_of (present m)

-- ten words for what the fragments of a message share; the last is 0
abbrev pub message_words : Message → List ℕ → List ℕ
message_words m rest =
    m.stream ∷ m.ssn ∷ bit_of m.unordered ∷ m.protocol ∷ m.number
    ∷ m.reliability.kind ∷ m.reliability.value ∷ is_there m.deadline ∷ time_of m.deadline ∷ 0
    ∷ rest

-- and ten for the fragment
abbrev pub chunk_words : Chunk → List ℕ → List ℕ
chunk_words c rest =
    message_words c.message (c.offset ∷ c.length ∷ c.nsent ∷ is_there c.since ∷ time_of c.since
    ∷ bit_of c.beginning ∷ bit_of c.ending ∷ bit_of c.acked ∷ bit_of c.abandoned ∷ bit_of c.retransmit
    ∷ rest)

-- the five words in front of every answer
abbrev pub front : (kind case x y z : ℕ) → List ℕ → List ℕ
front kind case x y z rest = kind ∷ case ∷ x ∷ y ∷ z ∷ rest

-- of a call that answers whether something was crossed
abbrev pub crossed_words : (kind : ℕ) → Result Bool Refusal → List ℕ
crossed_words kind (Err r) = front kind 0 (refusal_number r) 0 0 []
crossed_words kind (Ok b) = front kind 1 (bit_of b) 0 0 []

abbrev pub words : Answer → List ℕ
words (to_do (Err r)) = front 1 0 (refusal_number r) 0 0 []
words (to_do (Ok _)) = front 1 1 0 0 0 []
words (to_write a) = crossed_words 2 a
words (to_release a) = crossed_words 3 a
words (to_send (Err r)) = front 4 0 (refusal_number r) 0 0 []
words (to_send (Ok (Some (t, c)))) = front 4 1 t 0 0 (chunk_words c [])
words (to_send (Ok None)) = front 4 2 0 0 0 []
words (to_expire (Err r)) = front 5 0 (refusal_number r) 0 0 []
words (to_expire (Ok (Some x))) = front 5 1 x.stream (bit_of x.unordered) x.bytes []
words (to_expire (Ok None)) = front 5 2 0 0 0 []
words (to_expire_tail (Err r)) = front 6 0 (refusal_number r) 0 0 []
words (to_expire_tail (Ok (Some x))) = front 6 1 x.stream x.number x.bytes []
words (to_expire_tail (Ok None)) = front 6 2 0 0 0 []
words (to_abandon None) = front 7 0 0 0 0 []
words (to_abandon (Some x)) = front 7 1 x.stream x.bytes 0 []
words (to_find None) = front 8 0 0 0 0 []
words (to_find (Some c)) = front 8 1 0 0 0 (chunk_words c [])
words (to_seek None) = front 9 0 0 0 0 []
words (to_seek (Some t)) = front 9 1 t 0 0 []
words (to_measure (Err r)) = front 10 0 (refusal_number r) 0 0 []
words (to_measure (Ok x)) = front 10 1 x 0 0 []
words (to_count (Err r)) = front 11 0 (refusal_number r) 0 0 []
words (to_count (Ok s)) = front 11 1 s.messages s.bytes 0 []
words (to_list (Err r)) = front 12 0 (refusal_number r) 0 0 []
words (to_list (Ok l)) = front 12 1 (length l) 0 0 l
words (number x) = front 13 1 x 0 0 []
words (yes_no b) = front 14 1 (bit_of b) 0 0 []

-- the words of a reply to any request
abbrev pub reply_words : Reply → List ℕ
reply_words (answered a) = words a
reply_words (sacked (Err r)) = front 15 0 (refusal_number r) 0 0 []
reply_words (sacked (Ok (Some b))) = front 15 1 b 0 0 []
reply_words (sacked (Ok None)) = front 15 2 0 0 0 []
