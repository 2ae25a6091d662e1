-- Request by request; that an accepted SACK is its single calls is its definition. So each claim over requests is that over calls, at those calls.
use mathlib.Core.Path.{◌≡◌, refl, sym, ap, subst, ◌∙◌}
use mathlib.Core.Bool.{Bool, true, false}
use mathlib.Core.Logic.{◌⊎◌, inl, inr}
use mathlib.Core.Option.{some}
use mathlib.Core.List.{List, [], ◌∷◌, ◌++◌, map}
use Prim.Native.Nat.{ℕ, ◌+◌, ◌-◌, ◌%◌}
use native.Mathlib.Omega.{arith}
use lib.ListN.{length}
use Rattle.limits.specs.Limits.{Room, tsns}
use Rattle.model.specs.declared.Block.{Block}
use Rattle.model.specs.Lists.{when◌then◌else◌, total}
use Rattle.model.specs.State.{Sender, Out, fresh, same}
use Rattle.model.specs.Messages.{write}
use Rattle.model.specs.Rings.{pending_of}
use Rattle.model.specs.Calls.{Call, Acknowledge, step, run, answers, yields_of}
use Rattle.model.specs.Sack.{cumulative_of, is_sack, blocks_in, all_within}
use Rattle.model.specs.Sacks.{covered, is_stale, tsns_from, acknowledged_and_popped, block_calls, sack_calls, bytes_in, sacking, sack}
use Rattle.model.specs.Requests.{Request, Single, ReadSack, serve, sack_singles, singles, all_singles}
use Rattle.demands.specs.Words.{Each, cut_of, abandons}
use Rattle.demands.specs.Demand3.{Demand3}
use Rattle.demands.specs.Kept.{NothingLostFrom, Final}
use Rattle.demands.specs.States.{Kept}
use Rattle.demands.specs.Numbers.{Typed, Fits}
use Rattle.demands.specs.Sacks.{SacksLeave}
use Rattle.demands.specs.Requests.{AreSingleCalls, served_from, TypedRequest, RequestsFromFresh, EveryStateServed, NumbersFitServed, NothingLostServed, AbandonedIsFinalServed}
use Rattle.demands.proofs.Basic.{if-case}
use Rattle.demands.proofs.Each.{each_append}
use Rattle.demands.proofs.Fits.{numbers_fit}
use Rattle.demands.proofs.Sacks.{run_append}
use Rattle.demands.proofs.States.{every_state}
use Rattle.demands.proofs.Final.{abandoned_is_final}
use Rattle.demands.proofs.Lost.{nothing_lost}
use Rattle.demands.proofs.Demand3.{from_fresh}
use Rattle.std.specs.Prelude.{Some, None, Ok, Err}
use Rattle.limits.specs.declared.Refusal.{Refusal}
use Rattle.limits.specs.declared.Refusal.TheVariants.{BadSack, BadBlock}
use Rattle.model.specs.Answers.{Sacked}

-- ---- a SACK

module _ (room : Room) (t : ℕ) (l : List Block) (s : Sender) where
  -- what becomes of it, by whether it is stale and whether its blocks are good
  abbrev read : (stale good : Bool) → Out Sacked
  read stale good =
      when stale then same (Ok None) s else
      when good then record { after = run room (sack_calls t l s.flight) s; says = Ok (Some (total bytes_in (answers room (sack_calls t l s.flight) s))) }
      else same (Err BadBlock) s

  read_is : (stale good : Bool) → (read stale good).after ≡ run room (when stale then [] else when good then sack_calls t l s.flight else []) s
  read_is true good = refl
  read_is false true = refl
  read_is false false = refl

  sacking_is : (sacking room t l s).after ≡ run room (sack_singles t l s) s
  sacking_is = read_is (is_stale t s.flight) (all_within (length s.flight.entries - covered t s.flight) l)

-- ---- any requests

serve_is : (room : Room) (r : Request) (s : Sender) → (serve room r s).after ≡ run room (singles r s) s
unfolding sack
serve_is room (Single k) s = refl
serve_is room (ReadSack p) s = go (is_sack p)
  where
    go : (b : Bool) → (when b then sacking room (cumulative_of p) (blocks_in p) s else same (Err BadSack) s).after ≡ run room (when b then sack_singles (cumulative_of p) (blocks_in p) s else []) s
    go true = sacking_is room (cumulative_of p) (blocks_in p) s
    go false = refl

pub are_single_calls : AreSingleCalls
are_single_calls room [] s = refl
are_single_calls room (r ∷ rs) s =
    are_single_calls room rs (serve room r s).after ∙ ap (run room (all_singles room rs (serve room r s).after)) (serve_is room r s)
    ∙ sym (run_append room (singles r s) (all_singles room rs (serve room r s).after) s)

-- ---- the claims over calls, at the single calls of the requests

module _ (room : Room) (t n : ℕ) (rs : List Request) where
  abbrev calls : List Call
  calls = all_singles room rs (fresh t n)

  from : run room calls (fresh t n) ≡ served_from room t n rs
  from = sym (are_single_calls room rs (fresh t n))

pub requests_from_fresh : RequestsFromFresh
requests_from_fresh room h t n o rs = subst (Demand3 room) (from room t n rs) (from_fresh room h t n o (calls room t n rs))

pub every_state_served : EveryStateServed
every_state_served room t n rs = subst (Kept room) (from room t n rs) (every_state room t n (calls room t n rs))

-- the single calls of requests whose arguments fit have arguments that fit; a TSN that a SACK names is any number
pops_typed : (l : List ℕ) → Each Typed (acknowledged_and_popped l)
pops_typed [] = tt
pops_typed (t ∷ l) = (tt, (tt, pops_typed l))

acknowledgements_typed : (l : List ℕ) → Each Typed (map Acknowledge l)
acknowledgements_typed [] = tt
acknowledgements_typed (t ∷ l) = (tt, acknowledgements_typed l)

blocks_typed : (t : ℕ) (l : List Block) → Each Typed (block_calls t l)
blocks_typed t [] = tt
blocks_typed t (b ∷ l) =
    each_append Typed (map Acknowledge (tsns_from (b.end + 1 - b.start) ((t + b.start) % tsns))) (block_calls t l)
    (acknowledgements_typed (tsns_from (b.end + 1 - b.start) ((t + b.start) % tsns))) (blocks_typed t l)

singles_typed : (r : Request) (s : Sender) → TypedRequest r → Each Typed (singles r s)
singles_typed (Single k) s h = (h, tt)
singles_typed (ReadSack p) s h =
    let t = cumulative_of p in
    let l = blocks_in p in
    if-case (Each Typed) (is_sack p)
    (λ _. if-case (Each Typed) (is_stale t s.flight) (λ _. tt)
    (λ _. if-case (Each Typed) (all_within (length s.flight.entries - covered t s.flight) l)
    (λ _. each_append Typed (acknowledged_and_popped (tsns_from (covered t s.flight) s.flight.oldest)) (block_calls t l) (pops_typed (tsns_from (covered t s.flight) s.flight.oldest)) (blocks_typed t l))
    (λ _. tt)))
    (λ _. tt)

all_typed : (room : Room) (rs : List Request) (s : Sender) → Each TypedRequest rs → Each Typed (all_singles room rs s)
all_typed room [] s h = tt
all_typed room (r ∷ rs) s h = each_append Typed (singles r s) (all_singles room rs (serve room r s).after) (singles_typed r s h.0) (all_typed room rs (serve room r s).after h.1)

pub numbers_fit_served : NumbersFitServed
numbers_fit_served room t n h i rs ty = subst (Fits room) (from room t n rs) (numbers_fit room t n h i (calls room t n rs) (all_typed room rs (fresh t n) ty))

pub nothing_lost_served : NothingLostServed
nothing_lost_served room t n rs id p o l st found acc h qs x a =
    let s = served_from room t n rs in
    let k = s.numbers.next in
    let s' = (write room id p o l s).after in
    let js = all_singles room qs s' in
    let held : NothingLostFrom room s = subst (NothingLostFrom room) (from room t n rs) (nothing_lost room t n (calls room t n rs)) in
    ap (λ (z : Sender). cut_of k (yields_of room js s') ++ cut_of k (pending_of k z.pending)) (are_single_calls room qs s') ∙ held id p o l st found acc h js x a

-- that an abandonment in a state is final
abbrev FinalFrom : Room → Sender → Type 0
FinalFrom room s = (k : Call) (n : ℕ) → abandons k s ≡ some n → (js : List Call) → Final room n js (step room k s).after

pub abandoned_is_final_served : AbandonedIsFinalServed
abandoned_is_final_served room t n rs k m e qs =
    let s = served_from room t n rs in
    subst (FinalFrom room) (from room t n rs) (abandoned_is_final room t n (calls room t n rs)) k m e (all_singles room qs (step room k s).after)

-- ---- a SACK that is not accepted

-- where its outcome says something else than bytes, it is the state that was
module _ (room : Room) (t : ℕ) (l : List Block) (s : Sender) where
  stale_read : (stale good : Bool) → (read room t l s stale good).says ≡ Ok None → (read room t l s stale good).after ≡ s
  stale_read true good e = refl
  stale_read false true e = let z : ◌≡◌ {A = ℕ} 0 1 = cc in absurd (omega arith)
  stale_read false false e = let z : ◌≡◌ {A = ℕ} 0 1 = cc in absurd (omega arith)

  refused_read : (stale good : Bool) (n : Refusal) → (read room t l s stale good).says ≡ Err n → ((read room t l s stale good).after ≡ s) × ((n ≡ BadSack) ⊎ (n ≡ BadBlock))
  refused_read true good n e = let z : ◌≡◌ {A = ℕ} 0 1 = cc in absurd (omega arith)
  refused_read false true n e = let z : ◌≡◌ {A = ℕ} 0 1 = cc in absurd (omega arith)
  refused_read false false n e = (refl, inr (cc))

module _ (room : Room) (p : List ℕ) (s : Sender) where
  abbrev cumulative : ℕ
  cumulative = cumulative_of p

  abbrev stale : Bool
  stale = is_stale cumulative s.flight

  abbrev good : Bool
  good = all_within (length s.flight.entries - covered cumulative s.flight) (blocks_in p)

  abbrev outcome : Bool → Out Sacked
  outcome is = when is then sacking room cumulative (blocks_in p) s else same (Err BadSack) s

  stale_outcome : (is : Bool) → (outcome is).says ≡ Ok None → (outcome is).after ≡ s
  stale_outcome true e = stale_read room cumulative (blocks_in p) s stale good e
  stale_outcome false e = refl

  refused_outcome : (is : Bool) (n : Refusal) → (outcome is).says ≡ Err n → ((outcome is).after ≡ s) × ((n ≡ BadSack) ⊎ (n ≡ BadBlock))
  refused_outcome true n e = refused_read room cumulative (blocks_in p) s stale good n e
  refused_outcome false n e = (refl, inl (cc))

pub sacks_leave : SacksLeave
unfolding sack
sacks_leave =
    record { stale = λ room p s e. stale_outcome room p s (is_sack p) e; refused = λ room p s n e. refused_outcome room p s (is_sack p) n e }
