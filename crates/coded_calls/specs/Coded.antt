-- The table of coded requests: the first word is a row's number, the next four are its arguments.
use Rattle.std.specs.Prelude.{Bool, List, [], ◌∷◌, ℕ, ◌+◌, ◌-◌, ◌%◌, ◌^◌, ◌≤◌, min, length, get_or, take, drop, ℤ, pos, negsuc, ltb, leb, eqb}
use Rattle.model.specs.Lists.{when◌then◌else◌}
use Rattle.model.specs.Calls as Model
use Rattle.model.specs.Requests.{Request, Single, ReadSack}
use Rattle.calls.specs.declared.Call.{Call}
use Rattle.calls.specs.declared.Query.{Query}
use Rattle.calls.specs.Meant.{meant}
use Rattle.coded_calls.specs.declared.Coded.{Coded}

-- the number, or as many below -1
abbrev pub amount_of : ℕ → (negative : Bool) → ℤ
amount_of x negative = when negative then negsuc (x % 2 ^ 63) else pos (x % 2 ^ 63)

-- rows 0 to 13; from the last on all mark all
abbrev pub change : (row a b c d : ℕ) → Call
change row a b c d =
    get_or (Call.Open (a % 2 ^ 16) (b % 2 ^ 32)
    ∷ Call.SetReliability (a % 2 ^ 16) (eqb (b % 2) 1) (c % 2 ^ 8) (d % 2 ^ 32)
    ∷ Call.SetLow (a % 2 ^ 16) b
    ∷ Call.SetHigh (a % 2 ^ 16) b
    ∷ Call.Write (a % 2 ^ 16) (b % 2 ^ 32) c d
    ∷ Call.Release (a % 2 ^ 16) (amount_of b (eqb (c % 2) 1))
    ∷ Call.StartLifetimes a
    ∷ Call.Send a
    ∷ Call.ExpirePending a
    ∷ Call.ExpirePendingTail a
    ∷ Call.Abandon (a % 2 ^ 32)
    ∷ Call.Acknowledge (a % 2 ^ 32)
    ∷ Call.Pop (a % 2 ^ 32)
    ∷ []) row Call.MarkAll

-- rows 14 to 29
abbrev pub question : (row a : ℕ) → Query
question row a =
    get_or (Query.Get (a % 2 ^ 32)
    ∷ Query.IsAbandoned (a % 2 ^ 32)
    ∷ Query.PeekPending
    ∷ Query.NextMessage
    ∷ Query.NextTsn
    ∷ Query.PendingLength
    ∷ Query.PendingBytes
    ∷ Query.InflightLength
    ∷ Query.InflightBytes
    ∷ Query.EarliestOutstanding
    ∷ Query.PendingContainsStream (a % 2 ^ 16)
    ∷ Query.ContainsStream (a % 2 ^ 16)
    ∷ Query.BufferedAmount (a % 2 ^ 16)
    ∷ Query.LowThreshold (a % 2 ^ 16)
    ∷ Query.HighThreshold (a % 2 ^ 16)
    ∷ []) row (Query.Statistics (a % 2 ^ 16))

-- rows 0 to 29, as a value of the code; `meant` says which of the model's calls that is
abbrev pub plain_of : (row a b c d : ℕ) → Call
plain_of row a b c d = when ltb row 14 then change row a b c d else Call.Ask (question (row - 14) a)

-- every row but 31; from row 30 on: what has expired in flight, in a list of so much room, at most 256
abbrev pub call_in : (row a b c d : ℕ) → Model.Call
call_in row a b c d =
    when ltb row 30 then meant (plain_of row a b c d)
    else Model.Ask (Model.ExpiredInflight a (min b 256))

-- so many of the bytes from a place on; none, where they do not all lie within them
abbrev pub packet_in : (from count : ℕ) → (bytes : List ℕ) → List ℕ
packet_in from n bytes = when leb (from + n) (length bytes) then take n (drop from bytes) else []

-- row 31 is a SACK, of a part of the bytes that are lent with the words
abbrev pub request_in : (row a b c d : ℕ) → (bytes : List ℕ) → Request
request_in row a b c d bytes = when eqb row 31 then ReadSack (packet_in a b bytes) else Single (call_in row a b c d)

abbrev pub request_of : (words bytes : List ℕ) → Request
request_of w bytes = request_in (get_or w 0 0) (get_or w 1 0) (get_or w 2 0) (get_or w 3 0) (get_or w 4 0) bytes

-- what the code makes of the words
abbrev pub coded : Coded → (bytes : List ℕ) → Request
coded (Coded.Plain k) bytes = Single (meant k)
coded (Coded.Expired now n) bytes = Single (Model.Ask (Model.ExpiredInflight now n))
coded (Coded.Sack from n) bytes = ReadSack (packet_in from n bytes)

-- a listing's room is at most 256
abbrev pub Roomy : Coded → Type 0
Roomy (Coded.Plain k) = Unit {0}
Roomy (Coded.Expired now n) = n ≤ 256
Roomy (Coded.Sack from n) = Unit {0}
