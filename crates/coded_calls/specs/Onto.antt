-- Every request has words: the table of coded requests reaches each call whose arguments fit their types and each SACK, so lists of words are any
-- lists of requests.
use Rattle.std.specs.Prelude.{◌≡◌, List, [], ◌∷◌, ◌++◌, ℕ, ◌+◌, ◌<◌, ◌≤◌, ◌^◌, length, ℤ, pos, negsuc}
use Rattle.model.specs.Calls.{
  Query,
  Get,
  IsAbandoned,
  PeekPending,
  NextMessage,
  NextTsn,
  PendingLength,
  PendingBytes,
  InflightLength,
  InflightBytes,
  EarliestOutstanding,
  PendingContainsStream,
  ContainsStream,
  BufferedAmount,
  LowThreshold,
  HighThreshold,
  Statistics,
  ExpiredInflight,
  Call,
  Open,
  SetReliability,
  SetLow,
  SetHigh,
  Write,
  Release,
  StartLifetimes,
  Send,
  ExpirePending,
  ExpirePendingTail,
  Abandon,
  Acknowledge,
  Pop,
  MarkAll,
  Ask,
}
use Rattle.model.specs.Requests.{Request, Single, ReadSack}
use Rattle.cells.specs.Words.{bit_of}
use Rattle.coded_calls.specs.Coded.{request_of}

-- ---- the arguments that a call can be given

-- what is released is an i64: from -2^63 to 2^63 - 1
abbrev pub ReleaseFits : ℤ → Type 0
ReleaseFits (pos n) = n < 2 ^ 63
ReleaseFits (negsuc n) = n < 2 ^ 63

-- of a question: TSNs u32, identifiers u16, clocks u64; a list of expired TSNs has at most 256 places, as many as the flight has entries
abbrev pub QueryFits : Query → Type 0
QueryFits (Get t) = t < 2 ^ 32
QueryFits (IsAbandoned t) = t < 2 ^ 32
QueryFits PeekPending = Unit {0}
QueryFits NextMessage = Unit {0}
QueryFits NextTsn = Unit {0}
QueryFits PendingLength = Unit {0}
QueryFits PendingBytes = Unit {0}
QueryFits InflightLength = Unit {0}
QueryFits InflightBytes = Unit {0}
QueryFits EarliestOutstanding = Unit {0}
QueryFits (PendingContainsStream id) = id < 2 ^ 16
QueryFits (ContainsStream id) = id < 2 ^ 16
QueryFits (BufferedAmount id) = id < 2 ^ 16
QueryFits (LowThreshold id) = id < 2 ^ 16
QueryFits (HighThreshold id) = id < 2 ^ 16
QueryFits (Statistics id) = id < 2 ^ 16
QueryFits (ExpiredInflight now n) = (now < 2 ^ 64) × (n ≤ 256)

-- of any call: payload maxima, payload types and values u32 too, kinds u8, thresholds, offsets and lengths u64
abbrev pub CallFits : Call → Type 0
CallFits (Open id m) = (id < 2 ^ 16) × (m < 2 ^ 32)
CallFits (SetReliability id u k v) = (id < 2 ^ 16) × (k < 2 ^ 8) × (v < 2 ^ 32)
CallFits (SetLow id x) = (id < 2 ^ 16) × (x < 2 ^ 64)
CallFits (SetHigh id x) = (id < 2 ^ 16) × (x < 2 ^ 64)
CallFits (Write id p o l) = (id < 2 ^ 16) × (p < 2 ^ 32) × (o < 2 ^ 64) × (l < 2 ^ 64)
CallFits (Release id r) = (id < 2 ^ 16) × ReleaseFits r
CallFits (StartLifetimes now) = now < 2 ^ 64
CallFits (Send now) = now < 2 ^ 64
CallFits (ExpirePending now) = now < 2 ^ 64
CallFits (ExpirePendingTail now) = now < 2 ^ 64
CallFits (Abandon t) = t < 2 ^ 32
CallFits (Acknowledge t) = t < 2 ^ 32
CallFits (Pop t) = t < 2 ^ 32
CallFits MarkAll = Unit {0}
CallFits (Ask q) = QueryFits q

-- numbers of so many bits
abbrev pub Fit : (bits : ℕ) → List ℕ → Type 0
Fit bits [] = Unit {0}
Fit bits (w ∷ ws) = (w < 2 ^ bits) × Fit bits ws

-- of any request: a SACK is of bytes, whichever they are
abbrev pub RequestFits : Request → Type 0
RequestFits (Single k) = CallFits k
RequestFits (ReadSack p) = Fit 8 p

-- ---- the words of a request

-- a row's number, its arguments, and three words that no row reads
abbrev pub eight : (row a b c d : ℕ) → List ℕ
eight row a b c d = row ∷ a ∷ b ∷ c ∷ d ∷ 0 ∷ 0 ∷ 0 ∷ []

-- a release below zero is told by how much it is below -1
abbrev pub release_words : (identifier : ℕ) → ℤ → List ℕ
release_words id (pos n) = eight 5 id n 0 0
release_words id (negsuc n) = eight 5 id n 1 0

-- rows 14 to 30
abbrev pub query_words : Query → List ℕ
query_words (Get t) = eight 14 t 0 0 0
query_words (IsAbandoned t) = eight 15 t 0 0 0
query_words PeekPending = eight 16 0 0 0 0
query_words NextMessage = eight 17 0 0 0 0
query_words NextTsn = eight 18 0 0 0 0
query_words PendingLength = eight 19 0 0 0 0
query_words PendingBytes = eight 20 0 0 0 0
query_words InflightLength = eight 21 0 0 0 0
query_words InflightBytes = eight 22 0 0 0 0
query_words EarliestOutstanding = eight 23 0 0 0 0
query_words (PendingContainsStream id) = eight 24 id 0 0 0
query_words (ContainsStream id) = eight 25 id 0 0 0
query_words (BufferedAmount id) = eight 26 id 0 0 0
query_words (LowThreshold id) = eight 27 id 0 0 0
query_words (HighThreshold id) = eight 28 id 0 0 0
query_words (Statistics id) = eight 29 id 0 0 0
query_words (ExpiredInflight now n) = eight 30 now n 0 0

-- rows 0 to 30
abbrev pub call_words : Call → List ℕ
call_words (Open id m) = eight 0 id m 0 0
call_words (SetReliability id u k v) = eight 1 id (bit_of u) k v
call_words (SetLow id x) = eight 2 id x 0 0
call_words (SetHigh id x) = eight 3 id x 0 0
call_words (Write id p o l) = eight 4 id p o l
call_words (Release id r) = release_words id r
call_words (StartLifetimes now) = eight 6 now 0 0 0
call_words (Send now) = eight 7 now 0 0 0
call_words (ExpirePending now) = eight 8 now 0 0 0
call_words (ExpirePendingTail now) = eight 9 now 0 0 0
call_words (Abandon t) = eight 10 t 0 0 0
call_words (Acknowledge t) = eight 11 t 0 0 0
call_words (Pop t) = eight 12 t 0 0 0
call_words MarkAll = eight 13 0 0 0 0
call_words (Ask q) = query_words q

-- the bytes that a request has with it
abbrev pub bytes_of : Request → List ℕ
bytes_of (Single k) = []
bytes_of (ReadSack p) = p

-- every row: the bytes of a SACK stand from so many on
abbrev pub words_of : (from : ℕ) → Request → List ℕ
words_of from (Single k) = call_words k
words_of from (ReadSack p) = eight 31 from (length p) 0 0

-- these are the words of that request, whatever stands before and behind its bytes; each fits a cell of 64 bits, as a lent list of words has them
pub record HasWords (from : ℕ) (r : Request) (ws : List ℕ) : Type 0 where
  pub request : (before behind : List ℕ) → length before ≡ from → request_of ws (before ++ (bytes_of r ++ behind)) ≡ r
  pub eight : length ws ≡ 8
  pub fit : Fit 64 ws

-- every request whose arguments fit has words, where its bytes stand within the first 2 ^ 64
abbrev pub RequestsHaveWords : Type 0
RequestsHaveWords = (from : ℕ) (r : Request) → RequestFits r → from + length (bytes_of r) < 2 ^ 64 → HasWords from r (words_of from r)
