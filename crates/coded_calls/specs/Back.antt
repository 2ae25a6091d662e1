-- A reply read back from its words, and what stands behind it: so the words tell the reply, and a tape tells all of them.
use Rattle.std.specs.Prelude.{◌≡◌, Bool, List, ◌++◌, ℕ, get_or, take, drop, eqb, Some, None, Ok, Err}
use Rattle.limits.specs.declared.Refusal.{Refusal}
use Rattle.limits.specs.declared.Refusal.TheVariants.{BeyondLimit, BadBounds, NotOpen, AlreadyOpen, StreamsFull, MessageLong, BufferFull, RingFull, NumbersSpent, FlightFull, ListShort, CountFull, BadSack, BadBlock, NoEntry, PayloadOutside, OutputShort}
use Rattle.model.specs.declared.Chunk.{Chunk}
use Rattle.model.specs.declared.Message.{Message}
use Rattle.model.specs.Lists.{when◌then◌else◌}
use Rattle.model.specs.Records.{make_message, make_chunk}
use Rattle.model.specs.Told.{Told, told_sacked}
use Rattle.model.specs.Calls.{Answer, told_of, to_do, to_write, to_release, to_send, to_expire, to_expire_tail, to_abandon, to_find, to_seek, to_measure, to_count, to_list, number, yes_no}
use Rattle.model.specs.Requests.{Reply, answered, sacked}
use Rattle.coded_calls.specs.Words.{reply_words}
use Rattle.limits.specs.Moments.{Moment}
use Rattle.model.specs.Answers.{did, expired_message, expired_rest, abandoned_message}

abbrev pub flag : ℕ → Bool
flag x = eqb x 1

abbrev pub moment : (there time : ℕ) → Moment
moment there time = when eqb there 1 then Some time else None

abbrev pub message_from : List ℕ → Message
message_from w =
    make_message (get_or w 0 0) (get_or w 1 0) (flag (get_or w 2 0)) (get_or w 3 0) (get_or w 4 0) (record { kind = get_or w 5 0; value = get_or w 6 0 })
    (moment (get_or w 7 0) (get_or w 8 0))

abbrev pub chunk_from : List ℕ → Chunk
chunk_from w =
    make_chunk (message_from w) (flag (get_or w 15 0)) (flag (get_or w 16 0)) (get_or w 10 0) (get_or w 11 0) (moment (get_or w 13 0) (get_or w 14 0)) (get_or w 12 0)
    (flag (get_or w 17 0)) (flag (get_or w 18 0)) (flag (get_or w 19 0))

-- the refusal of a number; a number that is none of them is the last one's
abbrev pub refusal_from : ℕ → Refusal
refusal_from n =
    when eqb n 1 then BeyondLimit
    else when eqb n 2 then BadBounds
    else when eqb n 3 then NotOpen
    else when eqb n 4 then AlreadyOpen
    else when eqb n 5 then StreamsFull
    else when eqb n 6 then MessageLong
    else when eqb n 7 then BufferFull
    else when eqb n 8 then RingFull
    else when eqb n 9 then NumbersSpent
    else when eqb n 10 then FlightFull
    else when eqb n 11 then ListShort
    else when eqb n 12 then CountFull
    else when eqb n 13 then BadSack
    else when eqb n 14 then BadBlock
    else when eqb n 15 then NoEntry
    else when eqb n 16 then PayloadOutside
    else OutputShort

-- a reply, and the words behind it
pub record Read : Type 0 where
  pub reply : Reply
  pub rest : List ℕ

abbrev pub back : Reply → List ℕ → Read
back r rest = record { reply = r; rest = rest }

abbrev pub plain : Answer → List ℕ → Read
plain a rest = back (answered a) rest

-- by its kind and case
abbrev pub reply_from : (kind case x y z : ℕ) → List ℕ → Read
reply_from k c x y z w =
    when eqb k 1 then plain (to_do (when eqb c 0 then Err (refusal_from x) else did)) w
    else when eqb k 2 then plain (to_write (when eqb c 0 then Err (refusal_from x) else Ok (flag x))) w
    else when eqb k 3 then plain (to_release (when eqb c 0 then Err (refusal_from x) else Ok (flag x))) w
    else when eqb k 4 then (when eqb c 0 then plain (to_send (Err (refusal_from x))) w else when eqb c 1 then plain (to_send (Ok (Some (x, chunk_from w)))) (drop 20 w) else plain (to_send (Ok None)) w)
    else when eqb k 5 then plain (to_expire (when eqb c 0 then Err (refusal_from x) else when eqb c 1 then expired_message x (flag y) z else Ok None)) w
    else when eqb k 6 then plain (to_expire_tail (when eqb c 0 then Err (refusal_from x) else when eqb c 1 then expired_rest x y z else Ok None)) w
    else when eqb k 7 then plain (to_abandon (when eqb c 0 then None else abandoned_message x y)) w
    else when eqb k 8 then (when eqb c 0 then plain (to_find None) w else plain (to_find (Some (chunk_from w))) (drop 20 w))
    else when eqb k 9 then plain (to_seek (when eqb c 0 then None else Some x)) w
    else when eqb k 10 then plain (to_measure (when eqb c 0 then Err (refusal_from x) else Ok x)) w
    else when eqb k 11 then plain (to_count (when eqb c 0 then Err (refusal_from x) else Ok (record { messages = x; bytes = y }))) w
    else when eqb k 12 then (when eqb c 0 then plain (to_list (Err (refusal_from x))) w else plain (to_list (Ok (take x w))) (drop x w))
    else when eqb k 13 then plain (number x) w
    else when eqb k 14 then plain (yes_no (flag x)) w
    else back (sacked (when eqb c 0 then Err (refusal_from x) else when eqb c 1 then Ok (Some x) else Ok None)) w

abbrev pub read_back : List ℕ → Read
read_back w = reply_from (get_or w 0 0) (get_or w 1 0) (get_or w 2 0) (get_or w 3 0) (get_or w 4 0) (drop 5 w)

-- whatever comes behind
abbrev pub WordsTell : Type 0
WordsTell = (r : Reply) (us : List ℕ) → read_back (reply_words r ++ us) ≡ back r us

-- 01's number and values of a reply
abbrev pub told_reply : Reply → Told
told_reply (answered a) = told_of a
told_reply (sacked a) = told_sacked a

-- the same from its words
abbrev pub told_in : List ℕ → Told
told_in w = told_reply (read_back w).reply

-- the words of a reply tell its number and its values, whatever comes behind
abbrev pub WordsAreTold : Type 0
WordsAreTold = (r : Reply) (us : List ℕ) → told_in (reply_words r ++ us) ≡ told_reply r
