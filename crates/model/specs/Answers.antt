-- What each call answers. A refusal is an `Err`; `Ok` holds what the call did, and `None` says that there was nothing to do or to tell.
use Rattle.std.specs.Prelude.{ℕ, Bool, Option, Some, Result, Ok}
use Rattle.limits.specs.declared.Refusal.{Refusal}
use Rattle.model.specs.declared.Chunk.{Chunk}
use Rattle.model.specs.declared.Statistics.{Statistics}
use Rattle.model.specs.declared.ExpiredMessage.{ExpiredMessage}
use Rattle.model.specs.declared.ExpiredTail.{ExpiredTail}
use Rattle.model.specs.declared.AbandonedMessage.{AbandonedMessage}
use Rattle.model.specs.declared.DataChunk.{DataChunk}

-- opening a stream, setting its reliability or a threshold, starting lifetimes, marking all
abbrev pub Done : Type 0
Done = Result (Unit {0}) Refusal

abbrev pub did : Done
did = Ok (record {})

-- writing a message: whether the buffered amount reached the high threshold
abbrev pub Written : Type 0
Written = Result Bool Refusal

-- releasing buffered bytes: whether the amount fell to the low threshold
abbrev pub Released : Type 0
Released = Result Bool Refusal

-- sending: the TSN and the chunk
abbrev pub Sent : Type 0
Sent = Result (Option (ℕ × Chunk)) Refusal

-- expiring a message of which nothing was sent
abbrev pub Expired : Type 0
Expired = Result (Option ExpiredMessage) Refusal

abbrev pub expired_message : (stream : ℕ) → (unordered : Bool) → (bytes : ℕ) → Expired
expired_message i u b = Ok (Some (record { stream = i; unordered = u; bytes = b }))

-- expiring the rest of the message under way
abbrev pub TailExpired : Type 0
TailExpired = Result (Option ExpiredTail) Refusal

abbrev pub expired_rest : (stream number bytes : ℕ) → TailExpired
expired_rest i m b = Ok (Some (record { stream = i; number = m; bytes = b }))

-- abandoning the message of a TSN
abbrev pub Abandoned : Type 0
Abandoned = Option AbandonedMessage

abbrev pub abandoned_message : (stream bytes : ℕ) → Abandoned
abandoned_message i b = Some (record { stream = i; bytes = b })

-- the entry of a TSN, the entry that is popped, or the pending head
abbrev pub Found : Type 0
Found = Option Chunk

-- how many expired TSNs stand in the lent list
abbrev pub Listed : Type 0
Listed = Result ℕ Refusal

-- the oldest TSN that is neither acknowledged nor abandoned
abbrev pub Earliest : Type 0
Earliest = Option ℕ

-- a number kept for a stream: its buffered amount or a threshold
abbrev pub Amount : Type 0
Amount = Result ℕ Refusal

-- a stream's statistics
abbrev pub Counted : Type 0
Counted = Result Statistics Refusal

-- reading a SACK: the bytes that were released, or nothing where it is stale
abbrev pub Sacked : Type 0
Sacked = Result (Option ℕ) Refusal

-- writing a chunk: how many bytes it takes in the lent output, padding included
abbrev pub Laid : Type 0
Laid = Result ℕ Refusal

-- reading a DATA chunk
abbrev pub Data : Type 0
Data = Option DataChunk

abbrev pub data_fields : (tsn stream ssn flags protocol length : ℕ) → Data
data_fields t i n f p l = Some (record { tsn = t; stream = i; ssn = n; flags = f; protocol = p; length = l })
