-- Every call of the sender, its answer, and runs of calls.
use Rattle.std.specs.Prelude.{ℕ, ◌+◌, Bool, List, [], ◌∷◌, ◌++◌, length, ℤ, Some, None, Ok, Err}
use Rattle.limits.specs.Limits.{Room}
use Rattle.model.specs.declared.Chunk.{Chunk}
use Rattle.model.specs.Told.{Told, tells_flag, tells_number, told_done, told_written, told_released, told_sent, told_expired, told_tail, told_abandoned, told_found, told_earliest, told_amount, told_counted, told_listing}
use Rattle.model.specs.State.{Sender, next_tsn, in_flight, Out, same}
use Rattle.model.specs.Streams.{find, open_stream, set_reliability, set_low, set_high, release, amount, counts}
use Rattle.model.specs.Messages.{write}
use Rattle.model.specs.Rings.{head, start_lifetimes, send, expire_pending, expire_pending_tail, abandon, bytes, Listing, expired_inflight}
use Rattle.model.specs.Flight.{acknowledge, found, pop, mark_all, is_abandoned, has_stream, earliest_outstanding}
use Rattle.model.specs.Answers.{Done, Written, Released, Sent, Expired, TailExpired, Abandoned, Found, Earliest, Amount, Counted, did}

-- what changes nothing
pub data Query : Type 0 where
  Get IsAbandoned : (tsn : ℕ) → Query
  PeekPending NextMessage NextTsn PendingLength PendingBytes InflightLength InflightBytes EarliestOutstanding : Query
  PendingContainsStream ContainsStream BufferedAmount LowThreshold HighThreshold Statistics : (identifier : ℕ) → Query
  ExpiredInflight : (now room : ℕ) → Query

pub data Call : Type 0 where
  Open : (identifier maximum : ℕ) → Call
  SetReliability : (identifier : ℕ) → (unordered : Bool) → (kind value : ℕ) → Call
  SetLow SetHigh : (identifier threshold : ℕ) → Call
  Write : (identifier protocol offset length : ℕ) → Call
  Release : (identifier : ℕ) → ℤ → Call
  StartLifetimes Send ExpirePending ExpirePendingTail : (now : ℕ) → Call
  Abandon Acknowledge Pop : (tsn : ℕ) → Call
  MarkAll : Call
  Ask : Query → Call

-- the answers of all calls
pub data Answer : Type 0 where
  to_do : Done → Answer
  to_write : Written → Answer
  to_release : Released → Answer
  to_send : Sent → Answer
  to_expire : Expired → Answer
  to_expire_tail : TailExpired → Answer
  to_abandon : Abandoned → Answer
  to_find : Found → Answer
  to_seek : Earliest → Answer
  to_measure : Amount → Answer
  to_count : Counted → Answer
  to_list : Listing → Answer
  number : ℕ → Answer
  yes_no : Bool → Answer

abbrev pub answer : Query → Sender → Answer
answer (Get t) s = to_find (found (in_flight t s.flight))
answer (IsAbandoned t) s = yes_no (is_abandoned (in_flight t s.flight))
answer PeekPending s = to_find (found (head s.pending))
answer NextMessage s = number s.numbers.next
answer NextTsn s = number (next_tsn s)
answer PendingLength s = number (length s.pending.unordered + length s.pending.ordered)
answer PendingBytes s = number (bytes s.pending.unordered + bytes s.pending.ordered)
answer InflightLength s = number (length s.flight.entries)
answer InflightBytes s = number (bytes s.flight.entries)
answer EarliestOutstanding s = to_seek (earliest_outstanding s)
answer (PendingContainsStream id) s = yes_no (has_stream id (s.pending.unordered ++ s.pending.ordered))
answer (ContainsStream id) s = yes_no (has_stream id (s.pending.unordered ++ s.pending.ordered ++ s.flight.entries))
answer (BufferedAmount id) s = to_measure (amount (find id s.streams) (λ t. t.buffered))
answer (LowThreshold id) s = to_measure (amount (find id s.streams) (λ t. t.low))
answer (HighThreshold id) s = to_measure (amount (find id s.streams) (λ t. t.high))
answer (Statistics id) s = to_count (counts (find id s.streams))
answer (ExpiredInflight now n) s = to_list (expired_inflight now n s)

abbrev pub told : {A B : Type 0} → (A → B) → Out A → Out B
told f r = record { after = r.after; says = f r.says }

abbrev pub step : Room → Call → Sender → Out Answer
step room (Open id m) s = told to_do (open_stream room id m s)
step room (SetReliability id u k v) s = told to_do (set_reliability id u k v s)
step room (SetLow id x) s = told to_do (set_low id x s)
step room (SetHigh id x) s = told to_do (set_high id x s)
step room (Write id p o l) s = told to_write (write room id p o l s)
step room (Release id r) s = told to_release (release id r s)
step room (StartLifetimes now) s = told to_do (start_lifetimes now s)
step room (Send now) s = told to_send (send room now s)
step room (ExpirePending now) s = told to_expire (expire_pending now s)
step room (ExpirePendingTail now) s = told to_expire_tail (expire_pending_tail now s)
step room (Abandon t) s = told to_abandon (abandon t s)
step room (Acknowledge t) s = told number (acknowledge t s)
step room (Pop t) s = told to_find (pop t s)
step room MarkAll s = record { after = mark_all s; says = to_do did }
step room (Ask q) s = same (answer q s) s

-- ---- 01's number and values of an answer, and the chunk that it yields

abbrev pub told_of : Answer → Told
told_of (to_do a) = told_done a
told_of (to_write a) = told_written a
told_of (to_release a) = told_released a
told_of (to_send a) = told_sent a
told_of (to_expire a) = told_expired a
told_of (to_expire_tail a) = told_tail a
told_of (to_abandon a) = told_abandoned a
told_of (to_find a) = told_found a
told_of (to_seek a) = told_earliest a
told_of (to_measure a) = told_amount a
told_of (to_count a) = told_counted a
told_of (to_list a) = told_listing a
told_of (number x) = tells_number x
told_of (yes_no b) = tells_flag b

-- the number alone
abbrev pub number_of : Answer → ℕ
number_of a = (told_of a).number

abbrev pub yielded_by : Sent → List Chunk
yielded_by (Ok (Some (t, c))) = c ∷ []
yielded_by (Ok None) = []
yielded_by (Err n) = []

abbrev pub yielded : Answer → List Chunk
yielded (to_do a) = []
yielded (to_write a) = []
yielded (to_release a) = []
yielded (to_send a) = yielded_by a
yielded (to_expire a) = []
yielded (to_expire_tail a) = []
yielded (to_abandon a) = []
yielded (to_find a) = []
yielded (to_seek a) = []
yielded (to_measure a) = []
yielded (to_count a) = []
yielded (to_list a) = []
yielded (number x) = []
yielded (yes_no b) = []

-- ---- any calls, one after the other

abbrev pub run : Room → List Call → Sender → Sender
run room [] s = s
run room (k ∷ ks) s = run room ks (step room k s).after

abbrev pub answers : Room → List Call → Sender → List Answer
answers room [] s = []
answers room (k ∷ ks) s = (step room k s).says ∷ answers room ks (step room k s).after

-- the chunks that the sends among the calls yield, in order
abbrev pub yields_of : Room → List Call → Sender → List Chunk
yields_of room [] s = []
yields_of room (k ∷ ks) s = yielded (step room k s).says ++ yields_of room ks (step room k s).after
