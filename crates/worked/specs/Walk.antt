-- The program `walk` of 01, as the definitions compute it.
use Rattle.std.specs.Prelude.{ℕ, ◌+◌, ◌%◌, ◌≡◌, true, List, [], ◌∷◌, ◌++◌, map, length, drop, Some, None, Ok, Err}
use Rattle.limits.specs.Limits.{room01, tsns}
use Rattle.limits.specs.Refusals.{refusal_number}
use Rattle.model.specs.declared.Chunk.{Chunk}
use Rattle.model.specs.State.{Sender, fresh, next_tsn}
use Rattle.model.specs.Messages.{flags}
use Rattle.model.specs.Calls.{
  Call,
  Open,
  SetReliability,
  Write,
  Send,
  Abandon,
  Answer,
  to_do,
  to_write,
  to_release,
  to_send,
  to_expire,
  to_expire_tail,
  to_abandon,
  to_find,
  to_seek,
  to_measure,
  to_count,
  to_list,
  number,
  yes_no,
  number_of,
  step,
  answers,
}
use Rattle.model.specs.Answers.{Sent, Abandoned}

-- streams 1 and 2 of 1,200 bytes a chunk, 2 unordered, both reliable; all messages are of type 53
abbrev pub program : List Call
program =
    Open 1 1200
    ∷ Open 2 1200
    ∷ SetReliability 2 true 0 0
    ∷ Write 1 53 0 2500
    ∷ Send 0
    ∷ Write 2 53 0 50
    ∷ Send 0
    ∷ Abandon 4294967294
    ∷ Send 0
    ∷ Send 0
    ∷ []

abbrev pub start : Sender
start = fresh 4294967294 0

-- ---- what is printed: a line for each TSN as it is assigned

-- TSN, stream, SSN, flags and the bytes held
abbrev pub line : (tsn : ℕ) → Chunk → List ℕ
line t c = t ∷ c.message.stream ∷ c.message.ssn ∷ flags c ∷ c.length ∷ []

-- the lines of entries from a TSN on
abbrev pub lines_from : (tsn : ℕ) → List Chunk → List (List ℕ)
lines_from t [] = []
lines_from t (c ∷ l) = line t c ∷ lines_from ((t + 1) % tsns) l

-- after each call, the lines of the entries that it has added to the flight: a send's chunk, or an abandonment's terminator
abbrev pub printed : List Call → Sender → List (List ℕ)
printed [] s = []
printed (k ∷ ks) s =
    let s' = (step room01 k s).after in
    lines_from (next_tsn s) (drop (length s.flight.entries) s'.flight.entries) ++ printed ks s'

-- ---- what is heard: a send's line, an abandonment's stream and bytes, 01's number of any other answer

abbrev pub sent : Sent → List ℕ
sent (Ok (Some (t, c))) = line t c
sent (Ok None) = []
sent (Err r) = refusal_number r ∷ []

abbrev pub dropped : Abandoned → List ℕ
dropped (Some m) = m.stream ∷ m.bytes ∷ []
dropped None = []

abbrev pub heard : Answer → List ℕ
heard (to_send a) = sent a
heard (to_abandon a) = dropped a
heard (to_do a) = number_of (to_do a) ∷ []
heard (to_write a) = number_of (to_write a) ∷ []
heard (to_release a) = number_of (to_release a) ∷ []
heard (to_expire a) = number_of (to_expire a) ∷ []
heard (to_expire_tail a) = number_of (to_expire_tail a) ∷ []
heard (to_find a) = number_of (to_find a) ∷ []
heard (to_seek a) = number_of (to_seek a) ∷ []
heard (to_measure a) = number_of (to_measure a) ∷ []
heard (to_count a) = number_of (to_count a) ∷ []
heard (to_list a) = number_of (to_list a) ∷ []
heard (number x) = number_of (number x) ∷ []
heard (yes_no b) = number_of (yes_no b) ∷ []

-- ---- the claim

-- the lines as 01 gives them; TSN 0 is the terminator
abbrev pub lines : List (List ℕ)
lines =
    (4294967294 ∷ 1 ∷ 0 ∷ 2 ∷ 1200 ∷ [])
    ∷ (4294967295 ∷ 1 ∷ 0 ∷ 0 ∷ 1200 ∷ [])
    ∷ (0 ∷ 1 ∷ 0 ∷ 1 ∷ 0 ∷ [])
    ∷ (1 ∷ 2 ∷ 0 ∷ 7 ∷ 50 ∷ [])
    ∷ []

-- call by call: nothing is refused, 2,500 bytes of stream 1 are released, and the last send gives nothing
abbrev pub replies : List (List ℕ)
replies =
    (0 ∷ [])
    ∷ (0 ∷ [])
    ∷ (0 ∷ [])
    ∷ (0 ∷ [])
    ∷ (4294967294 ∷ 1 ∷ 0 ∷ 2 ∷ 1200 ∷ [])
    ∷ (0 ∷ [])
    ∷ (4294967295 ∷ 1 ∷ 0 ∷ 0 ∷ 1200 ∷ [])
    ∷ (1 ∷ 2500 ∷ [])
    ∷ (1 ∷ 2 ∷ 0 ∷ 7 ∷ 50 ∷ [])
    ∷ []
    ∷ []

pub record Walk : Type 0 where
  pub prints : printed program start ≡ lines
  pub hears : map heard (answers room01 program start) ≡ replies
