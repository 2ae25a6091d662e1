-- Document 01, "What the caller hears": the number and the values of each case of the sender's answers. Promises, flat replies and tapes go by it.
use Rattle.std.specs.Prelude.{ℕ, List, [], ◌∷◌, length, Some, None, Ok, Err}
use Rattle.limits.specs.Flags.{bit_of}
pub use Rattle.limits.specs.Told.{Told, tells, refusing, tells_flag, tells_number}
use Rattle.limits.specs.Told.{moment_then}
use Rattle.limits.specs.Refusals.{refusal_number}
use Rattle.model.specs.declared.Chunk.{Chunk}
use Rattle.model.specs.declared.Message.{Message}
use Rattle.model.specs.Rings.{Listing}
use Rattle.model.specs.Answers.{Done, Written, Released, Sent, Expired, TailExpired, Abandoned, Found, Listed, Earliest, Amount, Counted, Sacked, Laid}

-- ---- done, yes and no, numbers

-- opening, setting, starting lifetimes, marking: done
abbrev pub told_done : Done → Told
told_done (Ok _) = tells []
told_done (Err r) = refusing (refusal_number r)

-- a write: whether the amount reached the high threshold
abbrev pub told_written : Written → Told
told_written (Ok high) = tells_flag high
told_written (Err r) = refusing (refusal_number r)

-- a release: whether the amount fell to the low threshold
abbrev pub told_released : Released → Told
told_released (Ok low) = tells_flag low
told_released (Err r) = refusing (refusal_number r)

-- how many TSNs stand in the lent list
abbrev pub told_listed : Listed → Told
told_listed (Ok n) = tells_number n
told_listed (Err r) = refusing (refusal_number r)

-- a kept number of a stream
abbrev pub told_amount : Amount → Told
told_amount (Ok x) = tells_number x
told_amount (Err r) = refusing (refusal_number r)

-- a stream's statistics: messages, bytes
abbrev pub told_counted : Counted → Told
told_counted (Ok x) = tells (x.messages ∷ x.bytes ∷ [])
told_counted (Err r) = refusing (refusal_number r)

abbrev values_of_earliest : Earliest → List ℕ
values_of_earliest (Some t) = t ∷ []
values_of_earliest None = []

-- the oldest TSN outstanding, or nothing
abbrev pub told_earliest : Earliest → Told
told_earliest a = tells (values_of_earliest a)

-- ---- chunks

-- what the fragments of a message share: stream, SSN, U, payload type, message number, kind and value of the reliability, the deadline
abbrev pub message_values : Message → List ℕ → List ℕ
message_values m rest =
    m.stream ∷ m.ssn ∷ bit_of m.unordered ∷ m.protocol ∷ m.number
    ∷ m.reliability.kind ∷ m.reliability.value ∷ moment_then m.deadline rest

-- and the chunk: offset, length, B, E, since, nsent, acknowledged, abandoned, to be sent again
abbrev pub chunk_values : Chunk → List ℕ
chunk_values c =
    message_values c.message (c.offset ∷ c.length ∷ bit_of c.beginning ∷ bit_of c.ending
    ∷ moment_then c.since (c.nsent ∷ bit_of c.acked ∷ bit_of c.abandoned ∷ bit_of c.retransmit ∷ []))

-- a send: the TSN, then the chunk; or nothing
abbrev pub told_sent : Sent → Told
told_sent (Ok (Some (t, c))) = tells (t ∷ chunk_values c)
told_sent (Ok None) = tells []
told_sent (Err r) = refusing (refusal_number r)

abbrev values_of_found : Found → List ℕ
values_of_found (Some c) = chunk_values c
values_of_found None = []

-- an entry or the pending head, or nothing
abbrev pub told_found : Found → Told
told_found a = tells (values_of_found a)

-- ---- what an expiry or an abandonment freed

-- stream, U, bytes
abbrev pub told_expired : Expired → Told
told_expired (Ok (Some x)) = tells (x.stream ∷ bit_of x.unordered ∷ x.bytes ∷ [])
told_expired (Ok None) = tells []
told_expired (Err r) = refusing (refusal_number r)

-- stream, message number, bytes
abbrev pub told_tail : TailExpired → Told
told_tail (Ok (Some x)) = tells (x.stream ∷ x.number ∷ x.bytes ∷ [])
told_tail (Ok None) = tells []
told_tail (Err r) = refusing (refusal_number r)

abbrev values_of_abandoned : Abandoned → List ℕ
values_of_abandoned (Some x) = x.stream ∷ x.bytes ∷ []
values_of_abandoned None = []

-- stream, bytes
abbrev pub told_abandoned : Abandoned → Told
told_abandoned a = tells (values_of_abandoned a)

-- how many TSNs have expired, and these
abbrev pub told_listing : Listing → Told
told_listing (Ok l) = tells (length l ∷ l)
told_listing (Err r) = refusing (refusal_number r)

-- a SACK: the bytes released; nothing where it is stale
abbrev pub told_sacked : Sacked → Told
told_sacked (Ok (Some b)) = tells_number b
told_sacked (Ok None) = tells []
told_sacked (Err r) = refusing (refusal_number r)

-- a chunk that is written: how many bytes it takes
abbrev pub told_laid : Laid → Told
told_laid (Ok n) = tells_number n
told_laid (Err r) = refusing (refusal_number r)
