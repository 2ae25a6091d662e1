-- Calls and SACKs of a face, one after the other. S is the sender that a host holds, `state` is what it means, and `Called r s s'` what the
-- face's function of the request r promises of a sender s that it leaves as s'.
use Rattle.std.specs.Prelude.{◌≡◌, List, [], ◌∷◌, ℕ}
use Rattle.limits.specs.Limits.{room01}
use Rattle.model.specs.State.{Sender, fresh}
use Rattle.model.specs.Requests.{Request, serve, served}
use Rattle.demands.specs.Demand3.{Demand3}
use Rattle.outbound_queue.specs.Outbound.{Good}

-- these requests lead from s to t
abbrev pub Run : {S : Type 0} → (Called : Request → S → S → Type 0) → List Request → (s t : S) → Type 0
Run Called [] s t = t ≡ s
Run {S} Called (r ∷ rs) s t = (u : S) × Called r s u × Run Called rs u t

-- a request goes as the model's, in 01's room, in every `Good` state; and the counters of bytes stay sums
abbrev pub Follows : {S : Type 0} → (state : S → Sender) → (Sums : S → Type 0) → Request → (s s' : S) → Type 0
Follows state Sums r s s' = (Good room01 (state s) → state s' ≡ (serve room01 r (state s)).after) × (Sums s → Sums s')

-- the state is the model's behind these requests, from a fresh sender in 01's room; its counters of bytes are sums; it is `Good`, so that the next
-- request goes as the model's too; and demand 3 holds of it
pub record AsModel (tsn number : ℕ) (rs : List Request) (s : Sender) (Sums : Type 0) : Type 0 where
  pub state : s ≡ served room01 rs (fresh tsn number)
  pub sums : Sums
  pub good : Good room01 s
  pub demand3 : Demand3 room01 s
