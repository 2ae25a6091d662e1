-- What is told of each answer (`Told` of the model), flat: the number, and the values by their places. What a case does not have is 0.
use Rattle.std.specs.Prelude.{Bool, false, not, ◌&&◌, ℕ, drop, eqb}
pub use Rattle.limits.specs.Moments.{present, time_of}
use Rattle.limits.specs.Refusals.{done}
use Rattle.limits.specs.Told.{Told, tells, refusing, tells_flag, tells_number, tells_moment, value_at, flag_at, given}
use Rattle.model.specs.declared.Chunk.{Chunk}
use Rattle.model.specs.Answers as Model
use Rattle.model.specs.Lists.{when◌then◌else◌}
use Rattle.model.specs.Told.{chunk_values, told_done, told_written, told_released, told_listed, told_earliest, told_amount, told_counted, told_sent, told_found, told_expired, told_tail, told_abandoned, told_sacked, told_laid}
use Rattle.flat.specs.declared.Reply.{Reply}
use Rattle.flat.specs.declared.Freed.{Freed}
use Rattle.flat.specs.declared.Fragment.{Fragment}
use Rattle.flat.specs.declared.Counts.{Counts}
use Rattle.flat.specs.declared.Sacked.{Sacked}
use Rattle.limits.specs.Moments.{Moment}
use Rattle.model.specs.Answers.{Done, Written, Released, Sent, Expired, TailExpired, Abandoned, Found, Listed, Earliest, Amount, Counted, Laid}

-- ---- 01's number in a reply: the only thing in a refusal

abbrev pub refusal_of_reply : Reply → ℕ
refusal_of_reply y = y.refusal

abbrev pub refusal_of_freed : Freed → ℕ
refusal_of_freed y = y.refusal

abbrev pub refusal_of_fragment : Fragment → ℕ
refusal_of_fragment y = y.refusal

abbrev pub refusal_of_sacked : Sacked → ℕ
refusal_of_sacked y = y.refusal

-- ---- numbers, yes and no

-- 01's number, and yes or no
abbrev pub yes_no_in : Told → Reply
yes_no_in t = record { value = 0; refusal = t.number; yes = flag_at 0 t }

-- 01's number, and a number where there is one
abbrev pub number_in : Told → Reply
number_in t = record { value = value_at 0 t; refusal = t.number; yes = given t }

-- 01's number alone
abbrev pub only_number : ℕ → Reply
only_number n = number_in (refusing n)

abbrev pub yes_or_no : Bool → Reply
yes_or_no b = yes_no_in (tells_flag b)

-- there is a number
abbrev pub number_is : ℕ → Reply
number_is n = number_in (tells_number n)

abbrev pub flat_done : Done → Reply
flat_done a = number_in (told_done a)

abbrev pub flat_written : Written → Reply
flat_written a = yes_no_in (told_written a)

abbrev pub flat_released : Released → Reply
flat_released a = yes_no_in (told_released a)

abbrev pub flat_listed : Listed → Reply
flat_listed a = number_in (told_listed a)

abbrev pub flat_earliest : Earliest → Reply
flat_earliest a = number_in (told_earliest a)

abbrev pub flat_moment : Moment → Reply
flat_moment a = number_in (tells_moment a)

abbrev pub flat_amount : Amount → Reply
flat_amount a = number_in (told_amount a)

-- the bytes that a chunk takes, or the refusal alone
abbrev pub flat_laid : Laid → Reply
flat_laid a = number_in (told_laid a)

-- 01's number, and the messages and the bytes
abbrev pub counts_in : Told → Counts
counts_in t = record { messages = value_at 0 t; bytes = value_at 1 t; refusal = t.number }

abbrev pub flat_counted : Counted → Counts
flat_counted a = counts_in (told_counted a)

-- ---- chunks

-- 01's number, and the chunk of this TSN by the places of `chunk_values`; with no chunk there is no TSN
abbrev pub fragment_in : (tsn : ℕ) → Told → Fragment
fragment_in tsn t =
    record {
      message_id = value_at 4 t;
      offset = value_at 9 t;
      deadline = value_at 8 t;
      since = value_at 14 t;
      tsn = when given t then tsn else 0;
      length = value_at 10 t;
      protocol = value_at 3 t;
      value = value_at 6 t;
      nsent = value_at 15 t;
      stream = value_at 0 t;
      ssn = value_at 1 t;
      kind = value_at 5 t;
      refusal = t.number;
      some = given t;
      has_deadline = flag_at 7 t;
      has_since = flag_at 13 t;
      unordered = flag_at 2 t;
      beginning = flag_at 11 t;
      ending = flag_at 12 t;
      acked = flag_at 16 t;
      abandoned = flag_at 17 t;
      retransmit = flag_at 18 t;
    }

-- a chunk of this TSN
abbrev pub fragment_of : (tsn : ℕ) → Chunk → Fragment
fragment_of tsn c = fragment_in tsn (tells (chunk_values c))

abbrev pub no_fragment : ℕ → Fragment
no_fragment n = fragment_in 0 (refusing n)

-- what is told behind the first value
abbrev pub behind_first : Told → Told
behind_first t = record { number = t.number; values = drop 1 t.values }

-- the TSN is the first value, and the chunk stands behind it
abbrev pub flat_sent : Sent → Fragment
flat_sent a = fragment_in (value_at 0 (told_sent a)) (behind_first (told_sent a))

abbrev pub flat_found : (tsn : ℕ) → Found → Fragment
flat_found tsn a = fragment_in tsn (told_found a)

-- ---- what an expiry or an abandonment freed

-- stream, U, bytes
abbrev pub expired_in : Told → Freed
expired_in t = record { message_id = 0; bytes = value_at 2 t; stream = value_at 0 t; refusal = t.number; some = given t; unordered = flag_at 1 t }

-- with nothing but 01's number
abbrev pub none_freed : ℕ → Freed
none_freed n = expired_in (refusing n)

abbrev pub flat_expired : Expired → Freed
flat_expired a = expired_in (told_expired a)

-- stream, message number, bytes
abbrev pub tail_in : Told → Freed
tail_in t = record { message_id = value_at 1 t; bytes = value_at 2 t; stream = value_at 0 t; refusal = t.number; some = given t; unordered = false }

abbrev pub flat_tail : TailExpired → Freed
flat_tail a = tail_in (told_tail a)

-- stream, bytes
abbrev pub abandoned_in : Told → Freed
abandoned_in t = record { message_id = 0; bytes = value_at 1 t; stream = value_at 0 t; refusal = t.number; some = given t; unordered = false }

abbrev pub flat_abandoned : Abandoned → Freed
flat_abandoned a = abandoned_in (told_abandoned a)

-- ---- what a SACK released

-- the bytes; with none told and no refusal it was stale
abbrev pub sacked_in : Told → Sacked
sacked_in t = record { bytes = value_at 0 t; low = 0; refusal = t.number; stale = not (given t) && eqb t.number done }

-- with nothing but 01's number
abbrev pub none_sacked : ℕ → Sacked
none_sacked n = sacked_in (refusing n)

abbrev pub flat_sacked : Model.Sacked → Sacked
flat_sacked a = sacked_in (told_sacked a)
