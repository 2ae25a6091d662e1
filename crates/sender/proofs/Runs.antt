-- By induction on the requests: before each of them the state is one that the model reaches, so `Good`.
use mathlib.Core.Path.{◌≡◌, sym, ap, subst, ◌∙◌}
use mathlib.Core.List.{List, [], ◌∷◌}
use Prim.Native.Nat.{ℕ, ◌≤◌, ◌<◌}
use native.Mathlib.Omega.{arith}
use Rattle.limits.specs.Limits.{Room, room01, number_max, tsns}
use Rattle.model.specs.declared.Chunk.{Chunk}
use Rattle.model.specs.State.{Sender, Out, fresh, same}
use Rattle.model.specs.Requests.{Request, serve, served}
use Rattle.model.specs.Data.{data_chunk}
use Rattle.demands.specs.Words.{Each}
use Rattle.demands.specs.Demand3.{Demand3}
use Rattle.demands.specs.Requests.{TypedRequest}
use Rattle.demands.specs.Data.{ToSend, ReadsBack}
use Rattle.demands.proofs.Requests.{requests_from_fresh, every_state_served}
use Rattle.demands.proofs.Data.{written_reads_back}
use Rattle.outbound_queue.specs.Outbound.{Good, Does, kept_good}
use Rattle.sender.specs.Runs.{Run, Follows, AsModel}
use Rattle.std.specs.Prelude.{Ok}

-- ---- one call, from what its function promises; K is that the counters stay sums

module _ {A K : Type 0} {s' : Sender} {a : A} {o : Out A} where
  -- where it goes as the model's in every state
  pub gone : {G : Type 0} → (same a s' ≡ o) × K → (G → s' ≡ o.after) × K
  gone d = (λ _. ap (λ (x : Out A). x.after) d.0, d.1)

  -- where it does so in every `Good` state
  pub leant : {room : Room} {s : Sender} {l : Out A} → Does room s (same a s') l o × K → (Good room s → s' ≡ o.after) × K
  leant d = (λ good. ap (λ (x : Out A). x.after) (d.0.1 good), d.1)

module _ {S : Type 0} (state : S → Sender) (Sums : S → Type 0) where
  -- a question leaves the sender
  pub stayed : {G : Type 0} {s s' : S} → s' ≡ s → (G → state s' ≡ state s) × (Sums s → Sums s')
  stayed e = (λ _. ap state e, subst Sums (sym e))

  -- ---- any calls and SACKs

  module _ {Called : Request → S → S → Type 0} (each : (r : Request) (s s' : S) → Called r s s' → Follows state Sums r s s') where
    all_follow : (rs : List Request) (s t : S) (o : Sender) → state s ≡ o → ((qs : List Request) → Good room01 (served room01 qs o)) → Sums s → Run Called rs s t → (state t ≡ served room01 rs o) × Sums t
    all_follow [] s t o e good sums d = (ap state d ∙ e, subst Sums (sym d) sums)
    all_follow (r ∷ rs) s t o e good sums d =
        let f = each r s d.0 d.1 in
        let g = f.0 (subst (Good room01) (sym e) (good [])) ∙ ap (λ (x : Sender). (serve room01 r x).after) e in
        all_follow rs d.0 t (serve room01 r o).after g (λ qs. good (r ∷ qs)) (f.1 sums) d.2

    -- from a fresh sender
    pub as_model : (tsn number : ℕ) → tsn < tsns → (rs : List Request) (s t : S) → state s ≡ fresh tsn number → Sums s → Run Called rs s t → AsModel tsn number rs (state t) (Sums t)
    as_model tsn number h rs s t e sums d =
        let good : (qs : List Request) → Good room01 (served room01 qs (fresh tsn number)) = λ qs. kept_good (every_state_served room01 tsn number qs) in
        let f = all_follow rs s t (fresh tsn number) e good sums d in
        record {
          state = f.0;
          sums = f.1;
          good = subst (Good room01) (sym f.0) (good rs);
          demand3 = subst (Demand3 room01) (sym f.0) (requests_from_fresh room01 (omega arith) tsn number h rs);
        }

-- ---- a DATA chunk of the state behind them

pub written_back : (tsn number : ℕ) → tsn < tsns → number ≤ number_max → (rs : List Request) → Each TypedRequest rs → (s : Sender) → s ≡ served room01 rs (fresh tsn number)
    → (t : ℕ) (bytes out : List ℕ) (n : ℕ) → (data_chunk t bytes out s).answer ≡ Ok n → (c : Chunk) × ToSend t s c × ReadsBack t c bytes out n (data_chunk t bytes out s).out
written_back tsn number h k rs ty s e t bytes out n =
    subst (λ (z : Sender). (data_chunk t bytes out z).answer ≡ Ok n → (c : Chunk) × ToSend t z c × ReadsBack t c bytes out n (data_chunk t bytes out z).out) (sym e)
    (written_reads_back room01 tsn number h k rs ty t bytes out n)
