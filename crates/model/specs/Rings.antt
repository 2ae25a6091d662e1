-- Document 01, "Rings": which chunk is sent next, lifetimes, sending, expiry and abandonment.
use Rattle.std.specs.Prelude.{ℕ, suc, ◌+◌, ◌-◌, ◌%◌, Bool, true, false, not, ◌&&◌, ◌||◌, List, [], ◌∷◌, ◌++◌, map, length, leb, ltb, eqb, Result, Some, None, Ok, Err}
use Rattle.std.proofs.Math.Option.{Option, none, some}
use Rattle.limits.specs.Limits.{Room, clock_max, ssns, tsns}
use Rattle.limits.specs.Moments.{passed}
use Rattle.model.specs.declared.Chunk.{Chunk}
use Rattle.model.specs.State.{Lane, Unordered, Ordered, UnderWay, Idle, Sending, Sender, Pending, with_streams, with_pending, with_entries, with_numbers, at, in_rings, with_ring, next_tsn, in_flight, is_of, Out, same}
use Rattle.model.specs.declared.Message.{Message}
use Rattle.model.specs.declared.Stream.{Stream}
use Rattle.model.specs.Lists.{when◌then◌else◌, keep, some_of, first, last, total}
use Rattle.model.specs.Records.{flagged, sent_as}
pub use Rattle.model.specs.Records.{with_message, renewed, marked}
use Rattle.model.specs.Streams.{find, put, accounted}
use Rattle.model.specs.Messages.{is_dcep}
use Rattle.limits.specs.declared.Refusal.TheVariants.{BeyondLimit, FlightFull, ListShort}
use Rattle.limits.specs.declared.Refusal.{Refusal}
use Rattle.model.specs.Answers.{Done, Sent, Expired, TailExpired, Abandoned, did, expired_message, expired_rest, abandoned_message}

-- ---- the head: of the message under way if there is one; else the unordered front; else the ordered front

abbrev pub lane_ahead : UnderWay → (unordered : List Chunk) → Lane
lane_ahead (Sending l) u = l
lane_ahead Idle [] = Ordered
lane_ahead Idle (c ∷ u) = Unordered

abbrev pub head_lane : Pending → Lane
head_lane p = lane_ahead p.under_way p.unordered

abbrev pub head : Pending → Option Chunk
head p = first (at (head_lane p) p)

-- ---- changes of one chunk while it is pending

-- a message has a lifetime if it is Timed, except type 50
abbrev pub has_lifetime : Message → Bool
has_lifetime x = eqb x.reliability.kind 2 && not (is_dcep x.protocol)

-- a message not yet seen gets its deadline
abbrev pub begun : (now unstarted : ℕ) → Message → Message
begun now k x = when leb k x.number && has_lifetime x then renewed x.ssn (Some (now + x.reliability.value)) x else x

abbrev pub started : (now unstarted : ℕ) → Chunk → Chunk
started now k c = with_message (begun now k c.message) c

-- an SSN drops by 1 modulo 2 ^ 16
abbrev pub ssn_before : ℕ → ℕ
ssn_before n = (n + (ssns - 1)) % ssns

abbrev pub lowered : (stream : ℕ) → Chunk → Chunk
lowered id c = when eqb c.message.stream id then with_message (renewed (ssn_before c.message.ssn) c.message.deadline c.message) c else c

-- ---- starting lifetimes: 1

-- each Timed chunk of messages not yet seen gets the deadline now + lifetime, except type 50; all messages are seen then
abbrev pub with_lifetimes : (now : ℕ) → Sender → Sender
with_lifetimes now s =
    with_numbers (record { next = s.numbers.next; unstarted = s.numbers.next })
    (with_pending (in_rings (map (started now s.numbers.unstarted)) s.pending) s)

unfoldable pub start_lifetimes : (now : ℕ) → Sender → Out Done
start_lifetimes now s =
    when ltb clock_max now then same (Err BeyondLimit) s else
    record { after = with_lifetimes now s; says = did }

-- ---- send: 1; nothing on empty rings; 10

-- since = now, nsent = 1
abbrev pub sent_at : (now : ℕ) → Chunk → Chunk
sent_at now c = sent_as (Some now) 1 c

-- a non-ending fragment puts its message under way, an ending one ends that
abbrev pub under_way_after : Lane → Chunk → UnderWay
under_way_after l c = when c.ending then Idle else Sending l

-- the front c of the ring l goes to the flight, and x is the rest of the ring
abbrev pub taken : Lane → (now : ℕ) → Chunk → List Chunk → Sender → Sender
taken l now c x s =
    with_entries (s.flight.entries ++ (sent_at now c ∷ []))
    (with_pending (with_ring l (under_way_after l c) x s.pending) s)

-- s is the sender before the call, and s' has its lifetimes started: a refused send starts none, and one that answers nothing does
abbrev pub sending : Lane → List Chunk → Room → (now : ℕ) → (s s' : Sender) → Out Sent
sending l [] room now s s' = same (Ok None) s'
sending l (c ∷ x) room now s s' =
    when leb room.flight (suc (length s.flight.entries)) then same (Err FlightFull) s else
    record { after = taken l now c x s'; says = Ok (Some (next_tsn s, sent_at now c)) }

unfoldable pub send : Room → (now : ℕ) → Sender → Out Sent
send room now s =
    when ltb clock_max now then same (Err BeyondLimit) s else
    let p = (with_lifetimes now s).pending in sending (head_lane p) (at (head_lane p) p) room now s (with_lifetimes now s)

-- ---- a message leaves the rings

-- the pending chunks of a message, and their bytes
abbrev pub pending_of : (number : ℕ) → Pending → List Chunk
pending_of n p = keep (is_of n) p.ordered ++ keep (is_of n) p.unordered

abbrev pub bytes : List Chunk → ℕ
bytes l = total (λ c. c.length) l

-- removing the message under way, whose front is the head, ends that
abbrev pub ended : (number : ℕ) → (head : Option Chunk) → UnderWay → UnderWay
ended n none w = w
ended n (some c) w = when is_of n c then Idle else w

-- all chunks of the message go
abbrev pub without : (number : ℕ) → Pending → Pending
without n p =
    record { under_way = ended n (head p) p.under_way; unordered = keep (λ c. not (is_of n c)) p.unordered; ordered = keep (λ c. not (is_of n c)) p.ordered }

-- ---- the test of both expiry calls: not type 50, and now is at or after the deadline

abbrev pub overdue : (now : ℕ) → Chunk → Bool
overdue now c = not (is_dcep c.message.protocol) && passed now c.message.deadline

-- ---- expire_pending: 1. One wholly unsent message goes, and takes no TSN

-- for an ordered one, the SSNs of its stream's pending ordered chunks and the stream's next SSN drop by 1
abbrev pub drop_ssn : Option Stream → List Stream → List Stream
drop_ssn none l = l
drop_ssn (some t) l = put (accounted (ssn_before t.ssn) t.buffered t.statistics t) l

abbrev pub compacted : (unordered : Bool) → (stream : ℕ) → Sender → Sender
compacted true id s = s
compacted false id s =
    with_streams (drop_ssn (find id s.streams) s.streams)
    (with_pending (with_ring Ordered s.pending.under_way (map (lowered id) s.pending.ordered) s.pending) s)

-- the head, if it is a first fragment and not empty
abbrev pub expires : (now : ℕ) → Chunk → Bool
expires now c = c.beginning && (leb 1 c.length && overdue now c)

abbrev pub expiring : Option Chunk → (now : ℕ) → Sender → Out Expired
expiring none now s = same (Ok None) s
expiring (some c) now s =
    let x = c.message in
    when expires now c then
    record {
      after = compacted x.unordered x.stream (with_pending (without x.number s.pending) s);
      says = expired_message x.stream x.unordered (bytes (pending_of x.number s.pending));
    }
    else same (Ok None) s

unfoldable pub expire_pending : (now : ℕ) → Sender → Out Expired
expire_pending now s = when ltb clock_max now then same (Err BeyondLimit) s else expiring (head s.pending) now s

-- ---- abandoning a message

-- its flight entries: abandoned, not to retransmit, and they hold nothing
abbrev pub given_up : (number : ℕ) → Chunk → Chunk
given_up n c = when is_of n c then marked 0 c.acked true false c else c

-- the last removed chunk's fields, no bytes, B off, E on, abandoned, not to retransmit, since absent, nsent 0
abbrev pub terminator : Chunk → Chunk
terminator c = marked 0 c.acked true false (flagged false true (sent_as None 0 c))

-- one terminator if there were pending chunks
abbrev pub terminators : (lastRemoved : Option Chunk) → List Chunk
terminators none = []
terminators (some c) = terminator c ∷ []

abbrev pub abandoned : (number : ℕ) → Sender → Sender
abandoned n s =
    with_entries (map (given_up n) s.flight.entries ++ terminators (last (pending_of n s.pending)))
    (with_pending (without n s.pending) s)

-- all bytes that it held, in flight and pending
abbrev pub held_by : (number : ℕ) → Sender → ℕ
held_by n s = bytes (keep (is_of n) s.flight.entries) + bytes (pending_of n s.pending)

-- ---- abandon: names a TSN in flight, whatever its reliability

abbrev pub abandoning : Option Chunk → Sender → Out Abandoned
abandoning none s = same None s
abandoning (some c) s =
    let x = c.message in
    when c.abandoned then same (abandoned_message x.stream 0) s else
    record { after = abandoned x.number s; says = abandoned_message x.stream (held_by x.number s) }

unfoldable pub abandon : (tsn : ℕ) → Sender → Out Abandoned
abandon t s = abandoning (in_flight t s.flight) s

-- ---- expire_pending_tail: 1. The rest of the message under way

abbrev pub tail_expires : (now : ℕ) → Chunk → Bool
tail_expires now c = not c.beginning && overdue now c

abbrev pub tail_expiring : Option Chunk → (now : ℕ) → Sender → Out TailExpired
tail_expiring none now s = same (Ok None) s
tail_expiring (some c) now s =
    let x = c.message in
    when tail_expires now c then
    record { after = abandoned x.number s; says = expired_rest x.stream x.number (held_by x.number s) }
    else same (Ok None) s

unfoldable pub expire_pending_tail : (now : ℕ) → Sender → Out TailExpired
expire_pending_tail now s = when ltb clock_max now then same (Err BeyondLimit) s else tail_expiring (head s.pending) now s

-- ---- expired_inflight: 1, 11. Oldest first, each TSN not abandoned, at or past its deadline, and unacknowledged or still pending

abbrev pub Listing : Type 0
Listing = Result (List ℕ) Refusal

abbrev pub expired_entry : (now : ℕ) → Pending → Chunk → Bool
expired_entry now p c =
    not c.abandoned && (passed now c.message.deadline && (not c.acked || some_of (is_of c.message.number) (p.unordered ++ p.ordered)))

-- the TSNs of the entries that pass a test, of entries from a TSN on
abbrev pub tsns_of : (Chunk → Bool) → (tsn : ℕ) → List Chunk → List ℕ
tsns_of p t [] = []
tsns_of p t (c ∷ f) = when p c then (t ∷ tsns_of p ((t + 1) % tsns) f) else tsns_of p ((t + 1) % tsns) f

abbrev pub listing : (room : ℕ) → List ℕ → Listing
listing n l = when ltb n (length l) then Err ListShort else Ok l

unfoldable pub expired_inflight : (now room : ℕ) → Sender → Listing
expired_inflight now n s =
    when ltb clock_max now then Err BeyondLimit else
    listing n (tsns_of (expired_entry now s.pending) s.flight.oldest s.flight.entries)
