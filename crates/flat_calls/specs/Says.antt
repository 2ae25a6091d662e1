-- What each call does and says: the model's call of what head and cells mean, and the flat reply of its answer. Written by tools/thin from
-- tools/calls.table.
use Rattle.std.specs.Prelude.{Bool, List, ℕ, ℤ, ◌++◌, ◌+◌, length}
use Rattle.limits.specs.Limits.{Room}
use Rattle.sender_head.specs.declared.Head.{Head}
use Rattle.flat.specs.declared.Reply.{Reply}
use Rattle.flat.specs.declared.Freed.{Freed}
use Rattle.flat.specs.declared.Fragment.{Fragment}
use Rattle.flat.specs.declared.Counts.{Counts}
use Rattle.flat.specs.declared.Sacked.{Sacked}
use Rattle.flat.specs.Replies.{flat_abandoned, flat_amount, flat_counted, flat_done, flat_earliest, flat_expired, flat_found, flat_moment, flat_released, flat_sacked, flat_sent, flat_tail, flat_written, number_is, only_number, refusal_of_fragment, refusal_of_freed, refusal_of_reply, refusal_of_sacked, yes_or_no}
use Rattle.flat.specs.Calls.{Makes, Goes, Leans, GoesOrStays, LeansOrStays, doing, Asks, Sums}
use Rattle.flat_calls.specs.Listing.{Lists}
use Rattle.flat_calls.specs.Chunks.{Lays}
use Rattle.model.specs.State.{fresh, in_flight, next_tsn}
use Rattle.model.specs.Streams.{open_stream, set_reliability, set_low, set_high, release, find, amount, counts}
use Rattle.model.specs.Messages.{write}
use Rattle.model.specs.Rings.{start_lifetimes, send, expire_pending, expire_pending_tail, abandon, expired_inflight, head, bytes}
use Rattle.model.specs.Flight.{acknowledge, pop, mark_all, found, is_abandoned, earliest_outstanding, has_stream}
use Rattle.model.specs.Sacks.{sack}
use Rattle.model.specs.Data.{data_chunk}
use Rattle.sender_asks.specs.Beside.{oldest_tsn, ring_left, next_deadline}
use Rattle.outbound_send.specs.Lean.{lean_start, lean_send}
use Rattle.outbound_abandon.specs.Lean.{lean_abandon}
use Rattle.outbound_abandon.specs.LeanExpiry.{lean_expire, lean_expire_tail}
use Rattle.outbound_abandon.specs.LeanListing.{lean_list}

-- ---- a fresh sender, and its streams

-- A fresh sender, whatever the bytes were: the first chunk takes the TSN `tsn`, the first message the number `number`. The cells stay.
abbrev pub Init : (tsn number : ℕ) → Head → List ℕ → Head → List ℕ → Reply → Type 0
Init tsn number = Makes (fresh tsn number)

-- A new stream: ordered, Reliable, and never high. Refusals: 2, 4, 5.
abbrev pub OpenStream : Room → (identifier maximum : ℕ) → Head → List ℕ → Head → List ℕ → Reply → Type 0
OpenStream room identifier maximum = GoesOrStays refusal_of_reply flat_done (open_stream room identifier maximum)

-- How messages that are written from now on are delivered. Refusal: 3.
abbrev pub SetReliabilityParams : (identifier : ℕ) → (unordered : Bool) → (kind value : ℕ) → Head → List ℕ → Head → List ℕ → Reply → Type 0
SetReliabilityParams identifier unordered kind value = GoesOrStays refusal_of_reply flat_done (set_reliability identifier unordered kind value)

-- A release that brings the buffered amount from above this to it or below is answered yes. Refusal: 3.
abbrev pub SetBufferedAmountLowThreshold : (identifier low : ℕ) → Head → List ℕ → Head → List ℕ → Reply → Type 0
SetBufferedAmountLowThreshold identifier low = GoesOrStays refusal_of_reply flat_done (set_low identifier low)

-- A message that brings the buffered amount from below this to it or above is answered yes. Refusal: 3.
abbrev pub SetBufferedAmountHighThreshold : (identifier high : ℕ) → Head → List ℕ → Head → List ℕ → Reply → Type 0
SetBufferedAmountHighThreshold identifier high = GoesOrStays refusal_of_reply flat_done (set_high identifier high)

-- Bytes of a stream have left the sender; `yes` where the amount fell to the low threshold. Refusal: 3.
abbrev pub OnBufferReleased : (identifier : ℕ) → (released : ℤ) → Head → List ℕ → Head → List ℕ → Reply → Type 0
OnBufferReleased identifier released = GoesOrStays refusal_of_reply flat_released (release identifier released)

-- ---- messages

-- The caller keeps the bytes: a message is where they begin and how many they are. `yes` where the amount reached the high threshold. Refusals: 3, 6, 1, 7, 8, 9.
abbrev pub Write : Room → (identifier protocol offset length : ℕ) → Head → List ℕ → Head → List ℕ → Reply → Type 0
Write room identifier protocol offset length = GoesOrStays refusal_of_reply flat_written (write room identifier protocol offset length)

-- Starts the lifetimes of the messages not yet seen. Refusal: 1.
abbrev pub StartTimedMessages : Room → (clock : ℕ) → Head → List ℕ → Head → List ℕ → Reply → Type 0
StartTimedMessages room clock = LeansOrStays refusal_of_reply flat_done room (lean_start clock) (start_lifetimes clock)

-- The next chunk goes to the flight. Refusals: 1; 10 where a chunk is pending.
abbrev pub SendNext : Room → (clock : ℕ) → Head → List ℕ → Head → List ℕ → Fragment → Type 0
SendNext room clock = LeansOrStays refusal_of_fragment flat_sent room (lean_send room clock) (send room clock)

-- The message at the head goes if it is due, and takes no TSN. Refusal: 1.
abbrev pub ExpirePending : Room → (clock : ℕ) → Head → List ℕ → Head → List ℕ → Freed → Type 0
ExpirePending room clock = LeansOrStays refusal_of_freed flat_expired room (lean_expire clock) (expire_pending clock)

-- Abandons the message under way, if its rest has expired. Refusal: 1.
abbrev pub ExpirePendingTail : Room → (clock : ℕ) → Head → List ℕ → Head → List ℕ → Freed → Type 0
ExpirePendingTail room clock = LeansOrStays refusal_of_freed flat_tail room (lean_expire_tail room clock) (expire_pending_tail clock)

-- Abandons the message of a TSN in flight.
abbrev pub Abandon : Room → (tsn : ℕ) → Head → List ℕ → Head → List ℕ → Freed → Type 0
Abandon room tsn = Leans flat_abandoned room (lean_abandon room tsn) (abandon tsn)

-- ---- the flight

-- The entry of a TSN is acknowledged; the value is the bytes that it held.
abbrev pub MarkAsAcked : (tsn : ℕ) → Head → List ℕ → Head → List ℕ → Reply → Type 0
MarkAsAcked tsn = Goes number_is (acknowledge tsn)

-- Takes the oldest entry, if it has this TSN.
abbrev pub Pop : (tsn : ℕ) → Head → List ℕ → Head → List ℕ → Fragment → Type 0
Pop tsn = Goes (flat_found tsn) (pop tsn)

-- Reads the peer's SACK, of exactly the chunk's bytes: the covered prefix is acknowledged and popped, then the blocks are acknowledged; a stale one changes nothing. Refusals: 13; 14 where it is not stale.
abbrev pub HandleSack : Room → (chunk : List ℕ) → Head → List ℕ → Head → List ℕ → Sacked → Type 0
HandleSack room chunk = GoesOrStays refusal_of_sacked flat_sacked (sack room chunk)

-- Every entry that is neither acknowledged nor abandoned is to be retransmitted.
abbrev pub MarkAllToRetransmit : Head → List ℕ → Head → List ℕ → Reply → Type 0
MarkAllToRetransmit = Goes only_number (doing mark_all)

-- The TSNs in flight whose message has expired, in the front of the lent list; the value is how many. What is pending and in flight stays. Refusals: 1, 11.
abbrev pub ExpiredInflight : Room → (list : List ℕ) → (clock : ℕ) → Head → List ℕ → Head → List ℕ → List ℕ → Reply → Type 0
ExpiredInflight room list clock = Lists room list (lean_list clock) (expired_inflight clock)

-- ---- chunks for the wire

-- The DATA chunk of a TSN in flight (RFC 9260, section 3.3.1) in the front of `out`: its payload is copied from `bytes` by the entry's offset and length, and zeros fill it up to a multiple of four; what stands behind stays. The value is how many bytes the chunk takes. Refusals: 15, 16, 17.
abbrev pub DataChunk : (bytes out : List ℕ) → (tsn : ℕ) → Head → List ℕ → List ℕ → Reply → Type 0
DataChunk bytes out tsn = Lays out (data_chunk tsn bytes)

-- ---- questions

-- The entry of a TSN.
abbrev pub Get : (tsn : ℕ) → Head → List ℕ → Fragment → Type 0
Get tsn = Asks (flat_found tsn) (λ s. found (in_flight tsn s.flight))

-- Whether the message of a TSN was given up. No for a TSN that is not in flight.
abbrev pub IsAbandoned : (tsn : ℕ) → Head → List ℕ → Reply → Type 0
IsAbandoned tsn = Asks yes_or_no (λ s. is_abandoned (in_flight tsn s.flight))

-- The chunk that is sent next; it has no TSN yet.
abbrev pub PeekPending : Head → List ℕ → Fragment → Type 0
PeekPending = Asks (flat_found 0) (λ s. found (head s.pending))

-- The number of the next message.
abbrev pub NextMessageId : Head → List ℕ → Reply → Type 0
NextMessageId = Asks number_is (λ s. s.numbers.next)

-- The TSN of the next chunk that is sent.
abbrev pub NextTsn : Head → List ℕ → Reply → Type 0
NextTsn = Asks number_is next_tsn

-- How many chunks are pending.
abbrev pub PendingLen : Head → List ℕ → Reply → Type 0
PendingLen = Asks number_is (λ s. length s.pending.unordered + length s.pending.ordered)

-- How many bytes are pending.
abbrev pub PendingBytes : Head → List ℕ → Reply → Type 0
PendingBytes = Sums number_is (λ h. h.queue.pending.bytes) (λ s. bytes s.pending.unordered + bytes s.pending.ordered)

-- How many entries the flight has.
abbrev pub InflightLen : Head → List ℕ → Reply → Type 0
InflightLen = Asks number_is (λ s. length s.flight.entries)

-- How many bytes the entries in flight hold.
abbrev pub InflightBytes : Head → List ℕ → Reply → Type 0
InflightBytes = Sums number_is (λ h. h.queue.inflight.bytes) (λ s. bytes s.flight.entries)

-- The oldest TSN that is neither acknowledged nor abandoned, where `yes` is set.
abbrev pub EarliestOutstandingTsn : Head → List ℕ → Reply → Type 0
EarliestOutstandingTsn = Asks flat_earliest earliest_outstanding

-- Whether a stream has chunks pending.
abbrev pub PendingContainsStream : (identifier : ℕ) → Head → List ℕ → Reply → Type 0
PendingContainsStream identifier = Asks yes_or_no (λ s. has_stream identifier (s.pending.unordered ++ s.pending.ordered))

-- Whether a stream has chunks pending or in flight.
abbrev pub ContainsStream : (identifier : ℕ) → Head → List ℕ → Reply → Type 0
ContainsStream identifier = Asks yes_or_no (λ s. has_stream identifier (s.pending.unordered ++ s.pending.ordered ++ s.flight.entries))

-- How many bytes of a stream are written and not yet released. Refusal: 3.
abbrev pub BufferedAmount : (identifier : ℕ) → Head → List ℕ → Reply → Type 0
BufferedAmount identifier = Asks flat_amount (λ s. amount (find identifier s.streams) (λ t. t.buffered))

-- The low threshold of a stream. Refusal: 3.
abbrev pub BufferedAmountLowThreshold : (identifier : ℕ) → Head → List ℕ → Reply → Type 0
BufferedAmountLowThreshold identifier = Asks flat_amount (λ s. amount (find identifier s.streams) (λ t. t.low))

-- The high threshold of a stream. Refusal: 3.
abbrev pub BufferedAmountHighThreshold : (identifier : ℕ) → Head → List ℕ → Reply → Type 0
BufferedAmountHighThreshold identifier = Asks flat_amount (λ s. amount (find identifier s.streams) (λ t. t.high))

-- Messages and bytes sent on a stream. Refusal: 3.
abbrev pub Stats : (identifier : ℕ) → Head → List ℕ → Counts → Type 0
Stats identifier = Asks flat_counted (λ s. counts (find identifier s.streams))

-- ---- questions beside 01's

-- The oldest TSN in flight, acknowledged or abandoned as it may be, where `yes` is set.
abbrev pub OldestTsn : Head → List ℕ → Reply → Type 0
OldestTsn = Asks flat_earliest oldest_tsn

-- How many more chunks the ring of unordered messages takes, or that of ordered ones.
abbrev pub RingRoom : Room → (unordered : Bool) → Head → List ℕ → Reply → Type 0
RingRoom room unordered = Asks number_is (ring_left room unordered)

-- The earliest deadline of the chunk at the head and of those in flight that are not abandoned, where `yes` is set.
abbrev pub NextDeadline : Head → List ℕ → Reply → Type 0
NextDeadline = Asks flat_moment next_deadline
