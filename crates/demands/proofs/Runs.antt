-- What the invariant says of the rings and the flight of a state, in the words of `Kept`.
use Prim.Native.Nat.{ℕ, suc, ◌≤◌, ◌<◌}
use native.Mathlib.Nat.{le_refl}
use native.Mathlib.Omega.{arith}
use mathlib.Core.Path.{◌≡◌, refl, sym, ap, subst, ◌∙◌}
use mathlib.Core.Logic.{◌≢◌, inl, inr}
use mathlib.Core.Bool.{true, false, not}
use mathlib.Core.Option.{Option, none, some}
use mathlib.Core.List.{List, [], ◌∷◌, ◌++◌}
use lib.ListN.{length}
use borrow.Author.Tests.{eqb-true, eqb-false, eq-eqb}
use Rattle.limits.specs.Limits.{Room}
use Rattle.model.specs.declared.Chunk.{Chunk}
use Rattle.model.specs.declared.Message.{Message}
use Rattle.model.specs.State.{Lane, Unordered, Ordered, UnderWay, Idle, Sending, Sender, at, is_of}
use Rattle.model.specs.Lists.{when◌then◌else◌, keep}
use Rattle.model.specs.Rings.{head_lane, head}
use Rattle.demands.specs.Words.{behind, Each, Waits, number_of_head, number_under_way}
use Rattle.demands.specs.States.{Contiguous, Ascending, drop_run, Has}
use Rattle.demands.proofs.Basic.{if-case, bool_case}
use Rattle.demands.proofs.Each.{each_weaken, each_append, each_passing, none_kept}
use Rattle.demands.proofs.Ring.{Ring, floor_behind, From, ring_weaken, NotOf, none_of, whole_waits, ring_ascending}
use Rattle.demands.proofs.Valid.{Valid, Waiting, FlightFits, Begun, sending, Flew, Last, If, rank, other, both, want, last_number, number_is_lem, front, continues, not_beside, not_want, none_pending, flies_begun, sheets}

-- ---- leading runs

keep_all : (n : ℕ) (l : List Chunk) → Each (λ c. is_of n c ≡ false) l → keep (λ d. not (is_of n d)) l ≡ l
keep_all n [] a = refl
keep_all n (c ∷ l) a = rw a.0 (ap (λ (x : List Chunk). c ∷ x) (keep_all n l a.1))

-- no whole message of the ring is n: what is of n is a leading run
module _ (W : Message → Type 0) (n : ℕ) (h : (x : Message) → W x → x.number ≢ n) where
  drop_rest : (c : Chunk) (l : List Chunk) → Ring W (behind c) (suc c.message.number) l → keep (λ d. not (is_of n d)) l ≡ drop_run n l
      → keep (λ d. not (is_of n d)) (c ∷ l) ≡ drop_run n (c ∷ l)
  drop_rest c l r ih =
      bool_case (λ b. is_of n c ≡ b → (when not b then (c ∷ keep (λ d. not (is_of n d)) l) else keep (λ d. not (is_of n d)) l) ≡ (when b then drop_run n l else (c ∷ l))) (is_of n c)
      (λ _ _. ih)
      (λ _ e. ap (λ (x : List Chunk). c ∷ x) (keep_all n l (none_kept (is_of n) l (none_of {W = W} n h (behind c) (suc c.message.number) l (if-case (NotOf n) c.ending (λ _. tt) (λ _. e)) r)))) refl

  drop_run_lem : (w : Option Chunk) (k : ℕ) (l : List Chunk) → Ring W w k l → keep (λ d. not (is_of n d)) l ≡ drop_run n l
  drop_run_lem w k [] r = refl
  drop_run_lem none k (c ∷ l) r = drop_rest c l r.3 (drop_run_lem (behind c) (suc c.message.number) l r.3)
  drop_run_lem (some p) k (c ∷ l) r = drop_rest c l r.1 (drop_run_lem (behind c) (suc c.message.number) l r.1)

module _ {room : Room} (s : Sender) (v : Valid room s) where
  pub head_run_lem : (c : Chunk) → head s.pending ≡ some c → (l : Lane)
      → keep (λ d. not (is_of c.message.number d)) (at l s.pending) ≡ drop_run c.message.number (at l s.pending)
  head_run_lem c e =
      let n : ℕ = c.message.number in
      let h : Lane = head_lane s.pending in
      let z = front v c e in
      both (λ l. keep (λ d. not (is_of n d)) (at l s.pending) ≡ drop_run n (at l s.pending)) h
      (rw (z.1, eq-eqb n n refl) (drop_run_lem (λ x. suc n ≤ x.number) n (λ x y q. omega arith) (behind c) (suc n) z.0
      (ring_weaken (behind c) (suc n) (suc n) z.0 (le_refl _) (λ x y _. omega (arith, floor_behind c)) z.2.behind)))
      (drop_run_lem (Waiting v.fate v.sheet (other h)) n (λ x y q. not_beside v h c z.0 z.2 (ap v.fate (sym q) ∙ y.0)) none 0 (at (other h) s.pending) z.2.beside)

  pub flight_run_lem : (n : ℕ) → Has n s.flight.entries → (l : Lane) → keep (λ d. not (is_of n d)) (at l s.pending) ≡ drop_run n (at l s.pending)
  flight_run_lem n h l =
      let b : Begun (v.fate n) = flies_begun v n h in
      drop_run_lem (Waiting v.fate v.sheet l) n (λ x y q. omega (arith, ap rank (ap v.fate (sym q) ∙ y.0))) (want s.pending.under_way v.last l) 0 (at l s.pending) (v.rings l)

  -- ---- at most one message is sent in part

  pub whole : (l : Lane) (n : ℕ) → Has n (at l s.pending) → number_under_way s.pending ≢ some n → Waits n (at l s.pending)
  whole l n h a =
      whole_waits (Waiting v.fate v.sheet l) n (want s.pending.under_way v.last l) 0 (at l s.pending) (not_want s.pending.under_way v.last n l (λ e. a (number_is_lem v ∙ e))) (v.rings l) h

  pub partly : (l : Lane) (n : ℕ) → Has n (at l s.pending) → Has n s.flight.entries → number_under_way s.pending ≡ some n
  partly l n h a = number_is_lem v ∙ go s.pending.under_way (λ b. h (none_pending v n (flies_begun v n a) b l))
    where
      go : (w : UnderWay) → ((last_number w v.last ≢ some n) → ⊥) → last_number w v.last ≡ some n
      go Idle b = absurd (b (λ e. let z : ◌≡◌ {A = ℕ} 0 1 = cc in omega arith))
      go (Sending k) b =
          bool_case (λ t. is_of n v.last ≡ t → last_number (Sending k) v.last ≡ some n) (is_of n v.last) (λ _ e. ap some (eqb-true v.last.message.number n e))
          (λ _ e. absurd (b (λ q. eqb-false v.last.message.number n e (cc)))) refl

  pub head_rest_lem : (c : Chunk) → head s.pending ≡ some c → c.beginning ≡ false → number_under_way s.pending ≡ some c.message.number
  head_rest_lem c e b =
      ap (λ (w : UnderWay). number_of_head w (head s.pending)) (continues v c e b).under_way
      ∙ ap (number_of_head (Sending (head_lane s.pending))) e

  pub terminator_room_lem : (n : ℕ) → number_under_way s.pending ≡ some n → length s.flight.entries < room.flight
  terminator_room_lem n e = go s.pending.under_way e v.flight_fits
    where
      go : (w : UnderWay) → number_of_head w (head s.pending) ≡ some n → FlightFits room w (length s.flight.entries) → length s.flight.entries < room.flight
      go Idle e h = let y : none ≡ some n = e in let z : ◌≡◌ {A = ℕ} 0 1 = cc in absurd (omega arith)
      go (Sending l) e h = omega arith

  pub contiguous : Contiguous (number_under_way s.pending) s.flight.entries
  contiguous = subst (λ (w : Option ℕ). Contiguous w s.flight.entries) (sym (number_is_lem v)) v.chain

  pub unended : (n : ℕ) → number_under_way s.pending ≡ some n → Each (λ c. is_of n c ≡ true → c.ending ≡ false) s.flight.entries
  unended n e =
      let q = sends s.pending.under_way (sym (number_is_lem v) ∙ e) v.last_sent in
      each_weaken _ _ (λ c z i. unending c (ap v.fate (eqb-true c.message.number n i) ∙ q) z.flew) s.flight.entries v.flown
    where
      sends : (w : UnderWay) → last_number w v.last ≡ some n → If w (Last v.fate v.sheet s.numbers.unstarted v.last.message) → v.fate n ≡ sending
      sends Idle e h = let y : none ≡ some n = e in let z : ◌≡◌ {A = ℕ} 0 1 = cc in absurd (omega arith)
      sends (Sending l) e h = let q : v.last.message.number ≡ n = cc in ap v.fate (sym q) ∙ h.sends

      unending : (c : Chunk) → v.fate c.message.number ≡ sending → Flew (v.fate c.message.number) c.ending → c.ending ≡ false
      unending c q (inl o) = absurd (omega (arith, ap rank q, ap rank o))
      unending c q (inr o) = o.1

  -- ---- what the chunks of a message share, their order, and room

  pub shared : (n : ℕ) → (x : Message) × Each (λ c. c.message ≡ x) (keep (is_of n) (s.pending.ordered ++ s.pending.unordered ++ s.flight.entries))
  shared n =
      let l : List Chunk = s.pending.ordered ++ s.pending.unordered ++ s.flight.entries in
      let Filed : Chunk → Type 0 = λ c. c.message ≡ v.sheet c.message.number in (
        v.sheet n,
        each_weaken _ _ (λ c z. z.0 ∙ ap v.sheet (eqb-true c.message.number n z.1)) (keep (is_of n) l)
            (each_passing Filed (is_of n) l (each_append Filed (s.pending.ordered ++ s.pending.unordered) s.flight.entries
            (each_append Filed s.pending.ordered s.pending.unordered (sheets v Ordered) (sheets v Unordered)) (each_weaken _ _ (λ c z. z.seen.filed) s.flight.entries v.flown))),
      )

  pub ordered : (l : Lane) → Ascending 0 (at l s.pending)
  ordered l = ring_ascending (Waiting v.fate v.sheet l) 0 (want s.pending.under_way v.last l) 0 (at l s.pending) (go (want s.pending.under_way v.last l)) (v.rings l)
    where
      go : (w : Option Chunk) → From 0 w 0
      go none = le_refl 0
      go (some p) = omega arith

  pub flight_room_lem : length s.flight.entries ≤ room.flight
  flight_room_lem = go s.pending.under_way v.flight_fits
    where
      go : (w : UnderWay) → FlightFits room w (length s.flight.entries) → length s.flight.entries ≤ room.flight
      go Idle h = h
      go (Sending l) h = omega arith
