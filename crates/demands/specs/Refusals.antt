-- A refused call leaves the state as it was, and its number is one of those that 01 lists for the call.
use Rattle.std.specs.Prelude.{ℕ, ◌≤◌, ◌≡◌, ◌≢◌, true, List, [], ◌∷◌, eqb, Some, None, Ok, Err}
use Rattle.std.proofs.Math.Option.{Option, none, some}
use Rattle.limits.specs.Limits.{Room}
use Rattle.limits.specs.Refusals.{done, refusal_number, beyond_limit, bad_bounds, not_open, already_open, streams_full, message_long, buffer_full, ring_full, numbers_spent, flight_full, list_short}
use Rattle.model.specs.Lists.{some_of}
use Rattle.model.specs.State.{Sender}
use Rattle.model.specs.Calls.{
  Query,
  Get,
  IsAbandoned,
  PeekPending,
  NextMessage,
  NextTsn,
  PendingLength,
  PendingBytes,
  InflightLength,
  InflightBytes,
  EarliestOutstanding,
  PendingContainsStream,
  ContainsStream,
  BufferedAmount,
  LowThreshold,
  HighThreshold,
  Statistics,
  ExpiredInflight,
  Call,
  Open,
  SetReliability,
  SetLow,
  SetHigh,
  Write,
  Release,
  StartLifetimes,
  Send,
  ExpirePending,
  ExpirePendingTail,
  Abandon,
  Acknowledge,
  Pop,
  MarkAll,
  Ask,
  Answer,
  to_do,
  to_write,
  to_release,
  to_send,
  to_expire,
  to_expire_tail,
  to_abandon,
  to_find,
  to_seek,
  to_measure,
  to_count,
  to_list,
  number,
  yes_no,
  step,
  number_of,
}

-- every call, in every state at all, reached or not
abbrev pub RefusalsChangeNothing : Type 0
RefusalsChangeNothing = (room : Room) (k : Call) (s : Sender) → number_of (step room k s).says ≢ done → (step room k s).after ≡ s

-- ---- which refusals there are

-- the number that an answer refuses with, if it refuses
abbrev pub refusal_in : Answer → Option ℕ
refusal_in (to_do (Ok _)) = none
refusal_in (to_do (Err r)) = some (refusal_number r)
refusal_in (to_write (Ok high)) = none
refusal_in (to_write (Err r)) = some (refusal_number r)
refusal_in (to_release (Ok low)) = none
refusal_in (to_release (Err r)) = some (refusal_number r)
refusal_in (to_send (Ok (Some (t, c)))) = none
refusal_in (to_send (Ok None)) = none
refusal_in (to_send (Err r)) = some (refusal_number r)
refusal_in (to_expire (Ok (Some x))) = none
refusal_in (to_expire (Ok None)) = none
refusal_in (to_expire (Err r)) = some (refusal_number r)
refusal_in (to_expire_tail (Ok (Some x))) = none
refusal_in (to_expire_tail (Ok None)) = none
refusal_in (to_expire_tail (Err r)) = some (refusal_number r)
refusal_in (to_abandon a) = none
refusal_in (to_find c) = none
refusal_in (to_seek t) = none
refusal_in (to_measure (Ok x)) = none
refusal_in (to_measure (Err r)) = some (refusal_number r)
refusal_in (to_count (Ok x)) = none
refusal_in (to_count (Err r)) = some (refusal_number r)
refusal_in (to_list (Ok l)) = none
refusal_in (to_list (Err r)) = some (refusal_number r)
refusal_in (number x) = none
refusal_in (yes_no b) = none

-- 01's list for a question: those of an open stream 3, the expired list 1 and 11, the others never
abbrev pub refusals_of_asking : Query → List ℕ
refusals_of_asking (Get t) = []
refusals_of_asking (IsAbandoned t) = []
refusals_of_asking PeekPending = []
refusals_of_asking NextMessage = []
refusals_of_asking NextTsn = []
refusals_of_asking PendingLength = []
refusals_of_asking PendingBytes = []
refusals_of_asking InflightLength = []
refusals_of_asking InflightBytes = []
refusals_of_asking EarliestOutstanding = []
refusals_of_asking (PendingContainsStream id) = []
refusals_of_asking (ContainsStream id) = []
refusals_of_asking (BufferedAmount id) = not_open ∷ []
refusals_of_asking (LowThreshold id) = not_open ∷ []
refusals_of_asking (HighThreshold id) = not_open ∷ []
refusals_of_asking (Statistics id) = not_open ∷ []
refusals_of_asking (ExpiredInflight now n) = beyond_limit ∷ list_short ∷ []

-- 01's list for a call, in 01's order
abbrev pub refusals_of : Call → List ℕ
refusals_of (Open id m) = bad_bounds ∷ already_open ∷ streams_full ∷ []
refusals_of (SetReliability id u k v) = not_open ∷ []
refusals_of (SetLow id x) = not_open ∷ []
refusals_of (SetHigh id x) = not_open ∷ []
refusals_of (Write id p o l) = not_open ∷ message_long ∷ beyond_limit ∷ buffer_full ∷ ring_full ∷ numbers_spent ∷ []
refusals_of (Release id r) = not_open ∷ []
refusals_of (StartLifetimes now) = beyond_limit ∷ []
refusals_of (Send now) = beyond_limit ∷ flight_full ∷ []
refusals_of (ExpirePending now) = beyond_limit ∷ []
refusals_of (ExpirePendingTail now) = beyond_limit ∷ []
refusals_of (Abandon t) = []
refusals_of (Acknowledge t) = []
refusals_of (Pop t) = []
refusals_of MarkAll = []
refusals_of (Ask q) = refusals_of_asking q

-- n stands in the list, and is one of 1 to 12, so never 0
pub record Listed (l : List ℕ) (n : ℕ) : Type 0 where
  pub stands : some_of (eqb n) l ≡ true
  pub least : 1 ≤ n
  pub most : n ≤ 12

-- a refusal is one of those that 01 lists for the call: every call, in every state at all
abbrev pub RefusalsAreListed : Type 0
RefusalsAreListed = (room : Room) (k : Call) (s : Sender) (n : ℕ) → refusal_in (step room k s).says ≡ some n → Listed (refusals_of k) n
