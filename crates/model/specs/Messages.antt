-- Document 01, "Messages": a message is cut into fragments, and these join the back of their ring.
use Rattle.std.specs.Prelude.{ℕ, zero, suc, ◌+◌, ◌-◌, ◌/◌, ◌%◌, Bool, true, false, not, ◌&&◌, ◌||◌, List, [], ◌∷◌, ◌++◌, length, leb, ltb, eqb, Ok, Err}
use Rattle.std.proofs.Math.Option.{Option, none, some}
use Rattle.limits.specs.Limits.{Room, offset_max, buffered_max, number_max, ssns}
use Rattle.model.specs.declared.Chunk.{Chunk}
use Rattle.model.specs.State.{Lane, Sender, Numbers, with_streams, with_pending, with_numbers, at, lane_of, with_ring, Out, same}
use Rattle.model.specs.declared.Message.{Message}
use Rattle.model.specs.declared.Statistics.{Statistics}
use Rattle.model.specs.declared.Stream.{Stream}
use Rattle.model.specs.Lists.{when◌then◌else◌}
use Rattle.model.specs.Records.{new_message}
pub use Rattle.model.specs.Records.{piece}
use Rattle.model.specs.Streams.{find, put, accounted}
use Rattle.limits.specs.declared.Refusal.TheVariants.{BeyondLimit, NotOpen, MessageLong, BufferFull, RingFull, NumbersSpent}
use Rattle.model.specs.Answers.{Written}

-- ---- fragments

-- ceil (length / maximum)
abbrev pub pieces : (length maximum : ℕ) → ℕ
pieces l m = (l + (m - 1)) / m

-- n fragments: all of m bytes but the last, which has the rest; B on the first if `b`, E on the last
abbrev pub cut : Message → (b : Bool) → (n m offset length : ℕ) → List Chunk
cut x b zero m o l = []
cut x b (suc zero) m o l = piece x b true o l ∷ []
cut x b (suc (suc n)) m o l = piece x b false o m ∷ cut x false (suc n) m (o + m) (l - m)

-- the flags octet of RFC 9260: E 1, B 2, U 4
abbrev pub flags : Chunk → ℕ
flags c = (when c.ending then 1 else 0) + (when c.beginning then 2 else 0) + (when c.message.unordered then 4 else 0)

-- payload type 50
abbrev pub is_dcep : (protocol : ℕ) → Bool
is_dcep p = eqb p 50

-- type 50 is always ordered; others follow the stream
abbrev pub is_unordered : (protocol : ℕ) → Stream → Bool
is_unordered p t = not (is_dcep p) && t.unordered

-- fragments carry the stream's next SSN and its reliability as they stand at the write
abbrev pub message_of : (protocol number : ℕ) → Stream → Message
message_of p n t = new_message (is_unordered p t) p n t

-- the fragments of a message of a stream
abbrev pub fragments : (protocol number offset length : ℕ) → Stream → List Chunk
fragments p n o l t = cut (message_of p n t) true (pieces l t.maximum) t.maximum o l

-- ---- the stream behind a write

-- an ordered message adds 1 to the SSN modulo 2 ^ 16, of length 0 too; an unordered one nothing
abbrev pub ssn_after : (unordered : Bool) → ℕ → ℕ
ssn_after true n = n
ssn_after false n = (n + 1) % ssns

-- the counters stop at 2 ^ 64 - 1
abbrev pub saturated : ℕ → ℕ
saturated n = when leb n number_max then n else number_max

-- of a queued message, types 51 and 53 count one message and its bytes, 56 and 57 one message and 0 bytes, others nothing
abbrev pub counted_by : (protocol length : ℕ) → Statistics → Statistics
counted_by p zero x = x
counted_by p (suc l) x =
    when eqb p 51 || eqb p 53 then record { messages = saturated (x.messages + 1); bytes = saturated (x.bytes + suc l) } else
    when eqb p 56 || eqb p 57 then record { messages = saturated (x.messages + 1); bytes = x.bytes } else x

abbrev pub written : (protocol length : ℕ) → Stream → Stream
written p l t = accounted (ssn_after (is_unordered p t) t.ssn) (t.buffered + l) (counted_by p l t.statistics) t

-- ---- write: 3, 6, 1, 7, 8, 9

-- a message number is taken if there is a fragment
abbrev pub number_after : (pieces : ℕ) → Numbers → Numbers
number_after zero n = n
number_after (suc k) n = record { next = suc n.next; unstarted = n.unstarted }

-- fragments join the back of their ring
abbrev pub pushed : Lane → List Chunk → Sender → Sender
pushed l x s = with_pending (with_ring l s.pending.under_way (at l s.pending ++ x) s.pending) s

abbrev pub accepted : (protocol offset length : ℕ) → Stream → Sender → Sender
accepted p o l t s =
    with_streams (put (written p l t) s.streams)
    (with_numbers (number_after (pieces l t.maximum) s.numbers)
    (pushed (lane_of (is_unordered p t)) (fragments p s.numbers.next o l t) s))

-- high: the amount was below the high threshold and now is not
abbrev pub writing : Option Stream → Room → (protocol offset length : ℕ) → Sender → Out Written
writing none room p o l s = same (Err NotOpen) s
writing (some t) room p o l s =
    when ltb room.message l then same (Err MessageLong) s else
    when ltb offset_max o then same (Err BeyondLimit) s else
    when ltb buffered_max (t.buffered + l) then same (Err BufferFull) s else
    when ltb room.ring (length (at (lane_of (is_unordered p t)) s.pending) + pieces l t.maximum) then same (Err RingFull) s else
    when leb 1 (pieces l t.maximum) && eqb s.numbers.next number_max then same (Err NumbersSpent) s else
    record { after = accepted p o l t s; says = Ok (ltb t.buffered t.high && leb t.high (t.buffered + l)) }

unfoldable pub write : Room → (identifier protocol offset length : ℕ) → Sender → Out Written
write room id p o l s = writing (find id s.streams) room p o l s
