-- By the reply; a flag or a moment is what it was.
use mathlib.Core.Path.{◌≡◌, refl, ap}
use mathlib.Core.Bool.{Bool, true, false}
use mathlib.Core.List.{List, ◌++◌}
use Prim.Native.Nat.{ℕ}
use lib.ListN.{length}
use lib.Seq.{take_at, drop_at}
use Rattle.model.specs.declared.Chunk.{Chunk}
use Rattle.model.specs.Records.{make_message, make_chunk}
use Rattle.model.specs.Calls.{Answer, to_do, to_write, to_release, to_send, to_expire, to_expire_tail, to_abandon, to_find, to_seek, to_measure, to_count, to_list, number, yes_no}
use Rattle.model.specs.Requests.{answered, sacked}
use Rattle.cells.specs.Words.{bit_of}
use Rattle.coded_calls.specs.Words.{is_there, chunk_words, words}
use Rattle.coded_calls.specs.Back.{flag, moment, refusal_from, back, chunk_from, Read, plain, read_back, told_reply, WordsTell, WordsAreTold}
use Rattle.std.specs.Prelude.{Some, None, Ok, Err}
use Rattle.limits.specs.Moments.{Moment, time_of}
use Rattle.limits.specs.Refusals.{refusal_number}
use Rattle.limits.specs.declared.Refusal.{Refusal}
use Rattle.limits.specs.declared.Refusal.TheVariants.{BeyondLimit, BadBounds, NotOpen, AlreadyOpen, StreamsFull, MessageLong, BufferFull, RingFull, NumbersSpent, FlightFull, ListShort, CountFull, BadSack, BadBlock, NoEntry, PayloadOutside, OutputShort}
use Rattle.model.specs.Answers.{expired_message}

flag_back : (b : Bool) → flag (bit_of b) ≡ b
flag_back true = refl
flag_back false = refl

moment_back : (m : Moment) → moment (is_there m) (time_of m) ≡ m
moment_back None = refl
moment_back (Some t) = refl

refusal_back : (r : Refusal) → refusal_from (refusal_number r) ≡ r
refusal_back BeyondLimit = refl
refusal_back BadBounds = refl
refusal_back NotOpen = refl
refusal_back AlreadyOpen = refl
refusal_back StreamsFull = refl
refusal_back MessageLong = refl
refusal_back BufferFull = refl
refusal_back RingFull = refl
refusal_back NumbersSpent = refl
refusal_back FlightFull = refl
refusal_back ListShort = refl
refusal_back CountFull = refl
refusal_back BadSack = refl
refusal_back BadBlock = refl
refusal_back NoEntry = refl
refusal_back PayloadOutside = refl
refusal_back OutputShort = refl

chunk_back : (c : Chunk) (us : List ℕ) → chunk_from (chunk_words c us) ≡ c
chunk_back c us = λ i.
    let m = c.message in
    let x = make_message m.stream m.ssn (flag_back m.unordered i) m.protocol m.number m.reliability (moment_back m.deadline i) in
    make_chunk x (flag_back c.beginning i) (flag_back c.ending i) c.offset c.length (moment_back c.since i) c.nsent
    (flag_back c.acked i) (flag_back c.abandoned i) (flag_back c.retransmit i)

answer_told : (a : Answer) (us : List ℕ) → read_back (words a ++ us) ≡ plain a us
answer_told (to_do (Err r)) us = ap (λ (q : Refusal). plain (to_do (Err q)) us) (refusal_back r)
answer_told (to_do (Ok _)) us = refl
answer_told (to_write (Err r)) us = ap (λ (q : Refusal). plain (to_write (Err q)) us) (refusal_back r)
answer_told (to_write (Ok high)) us = ap (λ (b : Bool). plain (to_write (Ok b)) us) (flag_back high)
answer_told (to_release (Err r)) us = ap (λ (q : Refusal). plain (to_release (Err q)) us) (refusal_back r)
answer_told (to_release (Ok low)) us = ap (λ (b : Bool). plain (to_release (Ok b)) us) (flag_back low)
answer_told (to_send (Err r)) us = ap (λ (q : Refusal). plain (to_send (Err q)) us) (refusal_back r)
answer_told (to_send (Ok (Some (t, c)))) us = ap (λ (d : Chunk). plain (to_send (Ok (Some (t, d)))) us) (chunk_back c us)
answer_told (to_send (Ok None)) us = refl
answer_told (to_expire (Err r)) us = ap (λ (q : Refusal). plain (to_expire (Err q)) us) (refusal_back r)
answer_told (to_expire (Ok (Some x))) us = ap (λ (f : Bool). plain (to_expire (expired_message x.stream f x.bytes)) us) (flag_back x.unordered)
answer_told (to_expire (Ok None)) us = refl
answer_told (to_expire_tail (Err r)) us = ap (λ (q : Refusal). plain (to_expire_tail (Err q)) us) (refusal_back r)
answer_told (to_expire_tail (Ok (Some x))) us = refl
answer_told (to_expire_tail (Ok None)) us = refl
answer_told (to_abandon None) us = refl
answer_told (to_abandon (Some x)) us = refl
answer_told (to_find None) us = refl
answer_told (to_find (Some c)) us = ap (λ (d : Chunk). plain (to_find (Some d)) us) (chunk_back c us)
answer_told (to_seek None) us = refl
answer_told (to_seek (Some t)) us = refl
answer_told (to_measure (Err r)) us = ap (λ (q : Refusal). plain (to_measure (Err q)) us) (refusal_back r)
answer_told (to_measure (Ok x)) us = refl
answer_told (to_count (Err r)) us = ap (λ (q : Refusal). plain (to_count (Err q)) us) (refusal_back r)
answer_told (to_count (Ok s)) us = refl
answer_told (to_list (Err r)) us = ap (λ (q : Refusal). plain (to_list (Err q)) us) (refusal_back r)
answer_told (to_list (Ok l)) us = λ i. plain (to_list (Ok (take_at l us (length l) refl i))) (drop_at l us (length l) refl i)
answer_told (number x) us = refl
answer_told (yes_no b) us = ap (λ (f : Bool). plain (yes_no f) us) (flag_back b)

pub words_tell : WordsTell
words_tell (answered a) us = answer_told a us
words_tell (sacked (Err r)) us = ap (λ (q : Refusal). back (sacked (Err q)) us) (refusal_back r)
words_tell (sacked (Ok (Some b))) us = refl
words_tell (sacked (Ok None)) us = refl

pub words_are_told : WordsAreTold
words_are_told r us = ap (λ (x : Read). told_reply x.reply) (words_tell r us)
