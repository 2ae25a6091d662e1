-- The flat layer's relations, of a whole sender of 01's sizes before and after. A contract and its proof cite these by name, so that an edit of
-- one of them is refused at the fact that no longer follows. Written by tools/thin from tools/calls.table.
use Rattle.std.specs.Prelude.{Bool, List, ℕ, ℤ}
use Rattle.limits.specs.Limits.{room01}
use Rattle.flat.specs.declared.Reply.{Reply}
use Rattle.flat.specs.declared.Freed.{Freed}
use Rattle.flat.specs.declared.Fragment.{Fragment}
use Rattle.flat.specs.declared.Counts.{Counts}
use Rattle.flat.specs.declared.Sacked.{Sacked}
use Rattle.flat_calls.specs.Says as Flat
use Rattle.lent.specs.declared.Sender.{Sender}

-- ---- a fresh sender, and its streams

-- A fresh sender, whatever the bytes were: the first chunk takes the TSN `tsn`, the first message the number `number`. The cells stay.
abbrev pub Init : (tsn number : ℕ) → Sender → Sender → Reply → Type 0
Init tsn number s s' y = Flat.Init tsn number s.head s.cells s'.head s'.cells y

-- A new stream: ordered, Reliable, and never high. Refusals: 2, 4, 5.
abbrev pub OpenStream : (identifier maximum : ℕ) → Sender → Sender → Reply → Type 0
OpenStream identifier maximum s s' y = Flat.OpenStream room01 identifier maximum s.head s.cells s'.head s'.cells y

-- How messages that are written from now on are delivered. Refusal: 3.
abbrev pub SetReliabilityParams : (identifier : ℕ) → (unordered : Bool) → (kind value : ℕ) → Sender → Sender → Reply → Type 0
SetReliabilityParams identifier unordered kind value s s' y = Flat.SetReliabilityParams identifier unordered kind value s.head s.cells s'.head s'.cells y

-- A release that brings the buffered amount from above this to it or below is answered yes. Refusal: 3.
abbrev pub SetBufferedAmountLowThreshold : (identifier low : ℕ) → Sender → Sender → Reply → Type 0
SetBufferedAmountLowThreshold identifier low s s' y = Flat.SetBufferedAmountLowThreshold identifier low s.head s.cells s'.head s'.cells y

-- A message that brings the buffered amount from below this to it or above is answered yes. Refusal: 3.
abbrev pub SetBufferedAmountHighThreshold : (identifier high : ℕ) → Sender → Sender → Reply → Type 0
SetBufferedAmountHighThreshold identifier high s s' y = Flat.SetBufferedAmountHighThreshold identifier high s.head s.cells s'.head s'.cells y

-- Bytes of a stream have left the sender; `yes` where the amount fell to the low threshold. Refusal: 3.
abbrev pub OnBufferReleased : (identifier : ℕ) → (released : ℤ) → Sender → Sender → Reply → Type 0
OnBufferReleased identifier released s s' y = Flat.OnBufferReleased identifier released s.head s.cells s'.head s'.cells y

-- ---- messages

-- The caller keeps the bytes: a message is where they begin and how many they are. `yes` where the amount reached the high threshold. Refusals: 3, 6, 1, 7, 8, 9.
abbrev pub Write : (identifier protocol offset length : ℕ) → Sender → Sender → Reply → Type 0
Write identifier protocol offset length s s' y = Flat.Write room01 identifier protocol offset length s.head s.cells s'.head s'.cells y

-- Starts the lifetimes of the messages not yet seen. Refusal: 1.
abbrev pub StartTimedMessages : (clock : ℕ) → Sender → Sender → Reply → Type 0
StartTimedMessages clock s s' y = Flat.StartTimedMessages room01 clock s.head s.cells s'.head s'.cells y

-- The next chunk goes to the flight. Refusals: 1; 10 where a chunk is pending.
abbrev pub SendNext : (clock : ℕ) → Sender → Sender → Fragment → Type 0
SendNext clock s s' y = Flat.SendNext room01 clock s.head s.cells s'.head s'.cells y

-- The message at the head goes if it is due, and takes no TSN. Refusal: 1.
abbrev pub ExpirePending : (clock : ℕ) → Sender → Sender → Freed → Type 0
ExpirePending clock s s' y = Flat.ExpirePending room01 clock s.head s.cells s'.head s'.cells y

-- Abandons the message under way, if its rest has expired. Refusal: 1.
abbrev pub ExpirePendingTail : (clock : ℕ) → Sender → Sender → Freed → Type 0
ExpirePendingTail clock s s' y = Flat.ExpirePendingTail room01 clock s.head s.cells s'.head s'.cells y

-- Abandons the message of a TSN in flight.
abbrev pub Abandon : (tsn : ℕ) → Sender → Sender → Freed → Type 0
Abandon tsn s s' y = Flat.Abandon room01 tsn s.head s.cells s'.head s'.cells y

-- ---- the flight

-- The entry of a TSN is acknowledged; the value is the bytes that it held.
abbrev pub MarkAsAcked : (tsn : ℕ) → Sender → Sender → Reply → Type 0
MarkAsAcked tsn s s' y = Flat.MarkAsAcked tsn s.head s.cells s'.head s'.cells y

-- Takes the oldest entry, if it has this TSN.
abbrev pub Pop : (tsn : ℕ) → Sender → Sender → Fragment → Type 0
Pop tsn s s' y = Flat.Pop tsn s.head s.cells s'.head s'.cells y

-- Reads the peer's SACK, of exactly the chunk's bytes: the covered prefix is acknowledged and popped, then the blocks are acknowledged; a stale one changes nothing. Refusals: 13; 14 where it is not stale.
abbrev pub HandleSack : (chunk : List ℕ) → Sender → Sender → Sacked → Type 0
HandleSack chunk s s' y = Flat.HandleSack room01 chunk s.head s.cells s'.head s'.cells y

-- Every entry that is neither acknowledged nor abandoned is to be retransmitted.
abbrev pub MarkAllToRetransmit : Sender → Sender → Reply → Type 0
MarkAllToRetransmit s s' y = Flat.MarkAllToRetransmit s.head s.cells s'.head s'.cells y

-- The TSNs in flight whose message has expired, in the front of the lent list; the value is how many. What is pending and in flight stays. Refusals: 1, 11.
abbrev pub ExpiredInflight : (list : List ℕ) → (clock : ℕ) → Sender → Sender → List ℕ → Reply → Type 0
ExpiredInflight list clock s s' list' y = Flat.ExpiredInflight room01 list clock s.head s.cells s'.head s'.cells list' y

-- ---- chunks for the wire

-- The DATA chunk of a TSN in flight (RFC 9260, section 3.3.1) in the front of `out`: its payload is copied from `bytes` by the entry's offset and length, and zeros fill it up to a multiple of four; what stands behind stays. The value is how many bytes the chunk takes. Refusals: 15, 16, 17.
abbrev pub DataChunk : (bytes out : List ℕ) → (tsn : ℕ) → Sender → List ℕ → Reply → Type 0
DataChunk bytes out tsn s out' y = Flat.DataChunk bytes out tsn s.head s.cells out' y

-- ---- questions

-- The entry of a TSN.
abbrev pub Get : (tsn : ℕ) → Sender → Fragment → Type 0
Get tsn s y = Flat.Get tsn s.head s.cells y

-- Whether the message of a TSN was given up. No for a TSN that is not in flight.
abbrev pub IsAbandoned : (tsn : ℕ) → Sender → Reply → Type 0
IsAbandoned tsn s y = Flat.IsAbandoned tsn s.head s.cells y

-- The chunk that is sent next; it has no TSN yet.
abbrev pub PeekPending : Sender → Fragment → Type 0
PeekPending s y = Flat.PeekPending s.head s.cells y

-- The number of the next message.
abbrev pub NextMessageId : Sender → Reply → Type 0
NextMessageId s y = Flat.NextMessageId s.head s.cells y

-- The TSN of the next chunk that is sent.
abbrev pub NextTsn : Sender → Reply → Type 0
NextTsn s y = Flat.NextTsn s.head s.cells y

-- How many chunks are pending.
abbrev pub PendingLen : Sender → Reply → Type 0
PendingLen s y = Flat.PendingLen s.head s.cells y

-- How many bytes are pending.
abbrev pub PendingBytes : Sender → Reply → Type 0
PendingBytes s y = Flat.PendingBytes s.head s.cells y

-- How many entries the flight has.
abbrev pub InflightLen : Sender → Reply → Type 0
InflightLen s y = Flat.InflightLen s.head s.cells y

-- How many bytes the entries in flight hold.
abbrev pub InflightBytes : Sender → Reply → Type 0
InflightBytes s y = Flat.InflightBytes s.head s.cells y

-- The oldest TSN that is neither acknowledged nor abandoned, where `yes` is set.
abbrev pub EarliestOutstandingTsn : Sender → Reply → Type 0
EarliestOutstandingTsn s y = Flat.EarliestOutstandingTsn s.head s.cells y

-- Whether a stream has chunks pending.
abbrev pub PendingContainsStream : (identifier : ℕ) → Sender → Reply → Type 0
PendingContainsStream identifier s y = Flat.PendingContainsStream identifier s.head s.cells y

-- Whether a stream has chunks pending or in flight.
abbrev pub ContainsStream : (identifier : ℕ) → Sender → Reply → Type 0
ContainsStream identifier s y = Flat.ContainsStream identifier s.head s.cells y

-- How many bytes of a stream are written and not yet released. Refusal: 3.
abbrev pub BufferedAmount : (identifier : ℕ) → Sender → Reply → Type 0
BufferedAmount identifier s y = Flat.BufferedAmount identifier s.head s.cells y

-- The low threshold of a stream. Refusal: 3.
abbrev pub BufferedAmountLowThreshold : (identifier : ℕ) → Sender → Reply → Type 0
BufferedAmountLowThreshold identifier s y = Flat.BufferedAmountLowThreshold identifier s.head s.cells y

-- The high threshold of a stream. Refusal: 3.
abbrev pub BufferedAmountHighThreshold : (identifier : ℕ) → Sender → Reply → Type 0
BufferedAmountHighThreshold identifier s y = Flat.BufferedAmountHighThreshold identifier s.head s.cells y

-- Messages and bytes sent on a stream. Refusal: 3.
abbrev pub Stats : (identifier : ℕ) → Sender → Counts → Type 0
Stats identifier s y = Flat.Stats identifier s.head s.cells y

-- ---- questions beside 01's

-- The oldest TSN in flight, acknowledged or abandoned as it may be, where `yes` is set.
abbrev pub OldestTsn : Sender → Reply → Type 0
OldestTsn s y = Flat.OldestTsn s.head s.cells y

-- How many more chunks the ring of unordered messages takes, or that of ordered ones.
abbrev pub RingRoom : (unordered : Bool) → Sender → Reply → Type 0
RingRoom unordered s y = Flat.RingRoom room01 unordered s.head s.cells y

-- The earliest deadline of the chunk at the head and of those in flight that are not abandoned, where `yes` is set.
abbrev pub NextDeadline : Sender → Reply → Type 0
NextDeadline s y = Flat.NextDeadline s.head s.cells y
