-- Any calls and SACKs are single calls, so what is claimed of any calls holds of them too.
use Rattle.std.specs.Prelude.{ℕ, ◌≤◌, ◌<◌, ◌≡◌, true, List, ◌++◌, map}
use Rattle.std.proofs.Math.Option.{some}
use Rattle.limits.specs.Limits.{Room, number_max, tsns}
use Rattle.model.specs.declared.Stream.{Stream}
use Rattle.model.specs.State.{Sender, fresh}
use Rattle.model.specs.Streams.{find}
use Rattle.model.specs.Messages.{pieces, fragments, write}
use Rattle.model.specs.Rings.{pending_of}
use Rattle.model.specs.Calls.{Call, step, run, yields_of}
use Rattle.model.specs.Requests.{Request, Single, ReadSack, served, all_singles}
use Rattle.demands.specs.Words.{Each, as_cut, cut_of, abandons, Unabandoned, Unexpired, was_accepted}
use Rattle.demands.specs.Demand3.{Demand3}
use Rattle.demands.specs.Kept.{Final}
use Rattle.demands.specs.States.{Kept}
use Rattle.demands.specs.Numbers.{Typed, Fits}

abbrev pub AreSingleCalls : Type 0
AreSingleCalls = (room : Room) (rs : List Request) (s : Sender) → served room rs s ≡ run room (all_singles room rs s) s

-- the state that requests leave from a fresh sender on
abbrev pub served_from : Room → (firstTsn firstMessage : ℕ) → List Request → Sender
served_from room t n rs = served room rs (fresh t n)

-- the arguments of a request fit their types; a SACK is any bytes
abbrev pub TypedRequest : Request → Type 0
TypedRequest (Single k) = Typed k
TypedRequest (ReadSack p) = Unit

-- demand 3, and what holds of every state
abbrev pub RequestsFromFresh : Type 0
RequestsFromFresh = (room : Room) → room.flight ≤ tsns → (firstTsn firstMessage : ℕ) → firstTsn < tsns → (rs : List Request)
    → Demand3 room (served_from room firstTsn firstMessage rs)

abbrev pub EveryStateServed : Type 0
EveryStateServed = (room : Room) (firstTsn firstMessage : ℕ) (rs : List Request) → Kept room (served_from room firstTsn firstMessage rs)

abbrev pub NumbersFitServed : Type 0
NumbersFitServed = (room : Room) (firstTsn firstMessage : ℕ) → firstTsn < tsns → firstMessage ≤ number_max → (rs : List Request) → Each TypedRequest rs
    → Fits room (served_from room firstTsn firstMessage rs)

-- nothing is lost and nothing comes twice: behind a write that is accepted, under requests of which none expires or abandons the message, what was
-- yielded of it followed by what is pending of it is what it was cut into
abbrev pub NothingLostServed : Type 0
NothingLostServed = (room : Room) (firstTsn firstMessage : ℕ) (rs : List Request) →
    let s = served_from room firstTsn firstMessage rs in
    (id p o l : ℕ) (t : Stream) → find id s.streams ≡ some t → was_accepted (write room id p o l s).says ≡ true → 0 < pieces l t.maximum →
    let n = s.numbers.next in
    let s' = (write room id p o l s).after in
    (qs : List Request) → Unexpired room n (all_singles room qs s') s' → Unabandoned room n (all_singles room qs s') s'
    → cut_of n (yields_of room (all_singles room qs s') s') ++ cut_of n (pending_of n (served room qs s').pending) ≡ map as_cut (fragments p n o l t)

-- an abandoned message stays so, under any requests behind the call that abandons it
abbrev pub AbandonedIsFinalServed : Type 0
AbandonedIsFinalServed = (room : Room) (firstTsn firstMessage : ℕ) (rs : List Request) →
    let s = served_from room firstTsn firstMessage rs in
    (k : Call) (n : ℕ) → abandons k s ≡ some n → (qs : List Request) → Final room n (all_singles room qs (step room k s).after) (step room k s).after
