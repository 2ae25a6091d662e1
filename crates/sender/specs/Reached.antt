-- The sender as one value behind any calls and SACKs.
use Rattle.std.specs.Prelude.{◌≡◌, List, ℕ, ◌≤◌, ◌<◌, length, Some, Ok}
use Rattle.std.proofs.Math.Option.{some}
use Rattle.limits.specs.Limits.{room01, clock_max, number_max, tsns}
use Rattle.model.specs.declared.Chunk.{Chunk}
use Rattle.model.specs.State.{fresh, next_tsn}
use Rattle.model.specs.Streams.{open_stream, set_reliability, set_low, set_high, release}
use Rattle.model.specs.Messages.{write}
use Rattle.model.specs.Rings.{head, start_lifetimes, send, expire_pending, expire_pending_tail, abandon}
use Rattle.model.specs.Flight.{acknowledge, pop, mark_all}
use Rattle.model.specs.Sacks.{sack}
use Rattle.model.specs.Calls.{Open, SetReliability, SetLow, SetHigh, Write, Release, StartLifetimes, Send, ExpirePending, ExpirePendingTail, Abandon, Acknowledge, Pop, MarkAll, Ask}
use Rattle.model.specs.Requests.{Request, Single, ReadSack}
use Rattle.model.specs.Told.{told_done, told_written, told_released, told_sent, told_expired, told_tail, told_abandoned, told_found, told_sacked, tells_number}
use Rattle.model.specs.Data.{data_chunk}
use Rattle.demands.specs.Words.{SomePending, Each}
use Rattle.demands.specs.Demand3.{sent_by}
use Rattle.demands.specs.Requests.{TypedRequest}
use Rattle.demands.specs.Data.{ToSend, ReadsBack}
use Rattle.outbound_send.specs.Lean.{lean_start, lean_send}
use Rattle.outbound_abandon.specs.Lean.{lean_abandon}
use Rattle.outbound_abandon.specs.LeanExpiry.{lean_expire, lean_expire_tail}
use Rattle.sender.specs.declared.Sender.{Sender}
use Rattle.sender.specs.Value.{state_of, Sums, Goes, Leans, GoesOrStays, LeansOrStays}
use Rattle.sender.specs.Runs.{Run, AsModel}
use Rattle.model.specs.Answers.{Done, Written, Released, Sent, Expired, TailExpired, Abandoned, Found, Sacked}

-- what the function of each request promises of the sender before and after; a question leaves it
abbrev pub Called : Request → (s s' : Sender) → Type 0
Called (Single (Open id m)) s s' = (a : Done) × GoesOrStays told_done (open_stream room01 id m) s s' a
Called (Single (SetReliability id u k v)) s s' = (a : Done) × GoesOrStays told_done (set_reliability id u k v) s s' a
Called (Single (SetLow id x)) s s' = (a : Done) × GoesOrStays told_done (set_low id x) s s' a
Called (Single (SetHigh id x)) s s' = (a : Done) × GoesOrStays told_done (set_high id x) s s' a
Called (Single (Write id p o l)) s s' = (a : Written) × GoesOrStays told_written (write room01 id p o l) s s' a
Called (Single (Release id r)) s s' = (a : Released) × GoesOrStays told_released (release id r) s s' a
Called (Single (StartLifetimes clock)) s s' = (a : Done) × LeansOrStays told_done (lean_start clock) (start_lifetimes clock) s s' a
Called (Single (Send clock)) s s' = (a : Sent) × LeansOrStays told_sent (lean_send room01 clock) (send room01 clock) s s' a
Called (Single (ExpirePending clock)) s s' = (a : Expired) × LeansOrStays told_expired (lean_expire clock) (expire_pending clock) s s' a
Called (Single (ExpirePendingTail clock)) s s' = (a : TailExpired) × LeansOrStays told_tail (lean_expire_tail room01 clock) (expire_pending_tail clock) s s' a
Called (Single (Abandon t)) s s' = (a : Abandoned) × Leans told_abandoned (lean_abandon room01 t) (abandon t) s s' a
Called (Single (Acknowledge t)) s s' = (a : ℕ) × Goes tells_number (acknowledge t) s s' a
Called (Single (Pop t)) s s' = (a : Found) × Goes told_found (pop t) s s' a
Called (Single MarkAll) s s' = (state_of s' ≡ mark_all (state_of s)) × (Sums s → Sums s')
Called (Single (Ask q)) s s' = s' ≡ s
Called (ReadSack p) s s' = (a : Sacked) × GoesOrStays told_sacked (sack room01 p) s s' a

-- `new` made a sender of these numbers, and these requests led from it to s
abbrev pub Reached : (tsn number : ℕ) → List Request → Sender → Type 0
Reached tsn number rs s = (made : Sender) × ((state_of made ≡ fresh tsn number) × Sums made) × Run Called rs made s

-- behind any calls and SACKs of the sender as one value its state is the model's, and so demand 3 holds of it
abbrev pub ValueRuns : Type 0
ValueRuns = (tsn number : ℕ) → tsn < tsns → (rs : List Request) (s : Sender) → Reached tsn number rs s → AsModel tsn number rs (state_of s) (Sums s)

-- demand 3's first sentence: behind any calls and SACKs, a send with its clock at most 2 ^ 40, something pending and fewer than 255 entries in
-- flight yields the chunk at the head, with the next TSN
abbrev pub YieldsBelow255 : Type 0
YieldsBelow255 =
    (tsn number : ℕ) → tsn < tsns → (rs : List Request) (s s' : Sender) → Reached tsn number rs s
    → (clock : ℕ) → clock ≤ clock_max → SomePending (state_of s) → length (state_of s).flight.entries < 255
    → (a : Sent) → Leans told_sent (lean_send room01 clock) (send room01 clock) s s' a
    → (d : Chunk) × (head (state_of s).pending ≡ some d) × (a ≡ Ok (Some (next_tsn (state_of s), sent_by clock (state_of s) d)))

-- behind any calls and SACKs whose arguments fit their types, whatever is lent: where `data_chunk` answers bytes, they are the chunk of the TSN's
-- entry, and read back as that
abbrev pub WritesReadBack : Type 0
WritesReadBack =
    (tsn number : ℕ) → tsn < tsns → number ≤ number_max → (rs : List Request) → Each TypedRequest rs → (s : Sender) → Reached tsn number rs s
    → (bytes out : List ℕ) (t : ℕ) (out' : List ℕ) (n : ℕ) → record { answer = Ok n; out = out' } ≡ data_chunk t bytes out (state_of s)
    → (c : Chunk) × ToSend t (state_of s) c × ReadsBack t c bytes out n out'
