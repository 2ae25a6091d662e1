-- The lent sender behind any calls and SACKs.
use Rattle.std.specs.Prelude.{◌≡◌, true, List, ℕ, ◌≤◌, ◌<◌, length}
use Rattle.std.proofs.Math.Option.{some}
use Rattle.limits.specs.Limits.{clock_max, number_max, tsns}
use Rattle.model.specs.declared.Chunk.{Chunk}
use Rattle.model.specs.State as State
use Rattle.model.specs.State.{next_tsn}
use Rattle.model.specs.Rings.{head}
use Rattle.model.specs.Requests.{Request}
use Rattle.demands.specs.Words.{SomePending, Each}
use Rattle.demands.specs.Demand3.{sent_by}
use Rattle.demands.specs.Requests.{TypedRequest}
use Rattle.demands.specs.Data.{ToSend, ReadsBack}
use Rattle.sender_head.specs.Whole.{sender_of, Counted}
use Rattle.sender.specs.Runs.{Run, AsModel}
use Rattle.flat.specs.declared.Reply.{Reply}
use Rattle.flat.specs.declared.Fragment.{Fragment}
use Rattle.flat.specs.Replies.{fragment_of}
use Rattle.lent.specs.declared.Sender.{Sender}
use Rattle.lent.specs.Says.{Init, SendNext, DataChunk}
use Rattle.lent.specs.Called.{Called}

-- the model's sender
abbrev pub state_of : Sender → State.Sender
state_of s = sender_of s.head s.cells

-- its counters of bytes are sums, and its bound of the deadlines in flight is one
abbrev pub Sums : Sender → Type 0
Sums s = Counted s.head s.cells

-- `girdermoth_init` made a sender of these numbers from any bytes, and these requests led from it to s
abbrev pub Reached : (tsn number : ℕ) → List Request → Sender → Type 0
Reached tsn number rs s = (bytes : Sender) × (made : Sender) × (y : Reply) × Init tsn number bytes made y × Run Called rs made s

-- behind any calls and SACKs of the lent sender its state is the model's, and so demand 3 holds of it
abbrev pub LentRuns : Type 0
LentRuns = (tsn number : ℕ) → tsn < tsns → (rs : List Request) (s : Sender) → Reached tsn number rs s → AsModel tsn number rs (state_of s) (Sums s)

-- demand 3's first sentence: behind any calls and SACKs, a send with its clock at most 2 ^ 40, something pending and fewer than 255 entries in
-- flight answers that there is a chunk, with the next TSN, and it is the one at the head
abbrev pub YieldsBelow255 : Type 0
YieldsBelow255 =
    (tsn number : ℕ) → tsn < tsns → (rs : List Request) (s s' : Sender) → Reached tsn number rs s
    → (clock : ℕ) → clock ≤ clock_max → SomePending (state_of s) → length (state_of s).flight.entries < 255
    → (y : Fragment) → SendNext clock s s' y
    → (y.some ≡ true) × (y.tsn ≡ next_tsn (state_of s))
    × ((d : Chunk) × (head (state_of s).pending ≡ some d) × (y ≡ fragment_of (next_tsn (state_of s)) (sent_by clock (state_of s) d)))

-- behind any calls and SACKs whose arguments fit their types, whatever is lent: where `girdermoth_data_chunk` answers yes, the output begins with the
-- chunk of the TSN's entry, of `value` bytes, and it reads back as that
abbrev pub WritesReadBack : Type 0
WritesReadBack =
    (tsn number : ℕ) → tsn < tsns → number ≤ number_max → (rs : List Request) → Each TypedRequest rs → (s : Sender) → Reached tsn number rs s
    → (bytes out : List ℕ) (t : ℕ) (out' : List ℕ) (y : Reply) → DataChunk bytes out t s out' y → y.yes ≡ true
    → (c : Chunk) × ToSend t (state_of s) c × ReadsBack t c bytes out y.value out'
