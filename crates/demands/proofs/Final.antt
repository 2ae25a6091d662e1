-- Abandoned is final: nothing more of the message is pending, yielded or filed, its entries hold nothing, and the last of them ends it.
use Prim.Native.Nat.{ℕ}
use native.Mathlib.Omega.{arith}
use mathlib.Core.Path.{◌≡◌, refl, sym, ap, subst, ◌∙◌}
use mathlib.Core.Logic.{◌≢◌, inl, inr}
use mathlib.Core.Bool.{Bool, true, false, true≢false, or-true}
use mathlib.Core.Option.{Option, none, some}
use mathlib.Core.List.{List, [], ◌∷◌, ◌++◌, map}
use lib.Dec.{eqb}
use borrow.Author.Tests.{eqb-true, eqb-false}
use Rattle.limits.specs.Limits.{Room}
use Rattle.model.specs.declared.Chunk.{Chunk}
use Rattle.model.specs.declared.Message.{Message}
use Rattle.model.specs.State.{Lane, Unordered, Ordered, UnderWay, Idle, Sending, Sender, Pending, Out, fresh, with_pending, at, is_of, place}
use Rattle.model.specs.Lists.{when◌then◌else◌, keep, first, last}
use Rattle.model.specs.Rings.{head_lane, with_lifetimes, sent_at, pending_of, without, given_up, terminators, abandoned}
use Rattle.model.specs.Flight.{acknowledged, to_retransmit}
use Rattle.model.specs.Calls.{Call, Answer, step, run, yielded, yields_of}
use Rattle.demands.specs.Words.{Each, number_of_head, number_under_way, abandons, files, files_of, closing}
use Rattle.demands.specs.Kept.{GivenUp, Final, AbandonedIsFinal}
use Rattle.demands.specs.States.{Behind, Contiguous}
use Rattle.demands.proofs.Basic.{if-case, bool_case}
use Rattle.demands.proofs.Each.{each_map, each_append, each_kept, each_keep, each_adjust, each_first, keep_none, none_kept}
use Rattle.demands.proofs.Lists.{each_terminators}
use Rattle.demands.proofs.Views.{Does, does, streams_only, writes, starts, sends, abandons_it, expires_tail, expires_whole, acks, pops, marks}
use Rattle.demands.proofs.Tsn.{compacted_flight, files_are}
use Rattle.demands.proofs.Valid.{Valid, over, Entry, start_core, over_nothing}
use Rattle.demands.proofs.Runs.{contiguous}
use Rattle.demands.proofs.Steps.{keeps, reached}

module _ (n : ℕ) where
  -- of another message
  abbrev Other : Chunk → Type 0
  Other c = is_of n c ≡ false

  -- of another, or given up
  abbrev Left : Chunk → Type 0
  Left c = is_of n c ≡ true → GivenUp c

  -- ---- one entry

  left_other : (c : Chunk) → Other c → Left c
  left_other c h e = absurd (true≢false (sym e ∙ h))

  left_given_up : (m : ℕ) (c : Chunk) → (is_of m c ≡ false → Left c) → Left (given_up m c)
  left_given_up m c h = if-case Left (is_of m c) (λ _ _. record { abandoned = refl; empty = refl; resting = refl }) h

  left_acknowledged : (c : Chunk) → Left c → Left (acknowledged c)
  left_acknowledged c h e = record { abandoned = (h e).abandoned; empty = refl; resting = refl }

  left_to_retransmit : (c : Chunk) → Left c → Left (to_retransmit c)
  left_to_retransmit c h e =
      let g = h e in record { abandoned = g.abandoned; empty = g.empty; resting = rw (g.resting, g.abandoned, or-true c.acked) }

  left_terminators : (o : Option Chunk) → Each Left (terminators o)
  left_terminators none = tt
  left_terminators (some c) = (λ _. record { abandoned = refl; empty = refl; resting = refl }, tt)

  -- a message m is given up
  left_abandoned : (P : Chunk → Type 0) (m : ℕ) → ((c : Chunk) → P c → is_of m c ≡ false → Left c) → (s : Sender) → Each P s.flight.entries → Each Left (abandoned m s).flight.entries
  left_abandoned P m h s a =
      let o : Option Chunk = last (pending_of m s.pending) in
      each_append Left (map (given_up m) s.flight.entries) (terminators o) (each_map P Left (given_up m) (λ c p. left_given_up m c (h c p)) s.flight.entries a) (left_terminators o)

  -- ---- the last entry of a message that is not under way is an ending one

  last_ends : (w : Option ℕ) → w ≢ some n → (f : List Chunk) → Contiguous w f → (c : Chunk) → last (keep (is_of n) f) ≡ some c → c.ending ≡ true
  last_ends w h [] a c e = let z : ◌≡◌ {A = ℕ} 0 1 = cc in absurd (omega arith)
  last_ends w h (d ∷ f) a c e =
      bool_case (λ b. is_of n d ≡ b → last (when b then (d ∷ keep (is_of n) f) else keep (is_of n) f) ≡ some c → c.ending ≡ true) (is_of n d)
      (λ _ i q. own (last_ends w h f a.1 c) (keep (is_of n) f) refl i q) (λ _ _ q. last_ends w h f a.1 c q) refl e
    where
      ends : (g : List Chunk) → is_of n d ≡ true → keep (is_of n) g ≡ [] → Behind w d g → d.ending ≡ true
      ends [] i k (inl q) = q
      ends [] i k (inr q) = absurd (h (q ∙ ap some (eqb-true d.message.number n i)))
      ends (x ∷ g) i k q =
          bool_case (λ b. (when b then keep (is_of d.message.number) (x ∷ g) ≡ [] else ((x.message ≡ d.message) × (x.beginning ≡ false))) → b ≡ true) d.ending
          (λ _ _. refl)
          (λ _ q. absurd (true≢false (sym i ∙ ap (λ (y : Message). eqb y.number n) (sym q.0) ∙ (none_kept (is_of n) (x ∷ g) k).0))) q

      own : (last (keep (is_of n) f) ≡ some c → c.ending ≡ true) → (l : List Chunk) → keep (is_of n) f ≡ l → is_of n d ≡ true → last (d ∷ l) ≡ some c → c.ending ≡ true
      own r [] k i q = let p : d ≡ c = cc in subst (λ (y : Chunk). y.ending ≡ true) p (ends f i k a.0)
      own r (x ∷ l) k i q = r (ap last k ∙ q)

  -- nothing of n is pending: it is not under way
  not_under_way : (w : UnderWay) (l : List Chunk) → Each Other l → number_of_head w (first l) ≢ some n
  not_under_way Idle l a e = let z : ◌≡◌ {A = ℕ} 0 1 = cc in omega arith
  not_under_way (Sending k) [] a e = let z : ◌≡◌ {A = ℕ} 0 1 = cc in omega arith
  not_under_way (Sending k) (c ∷ l) a e = eqb-false c.message.number n a.0 (cc)

  -- .. and an abandonment files nothing of it
  closing_other : (o : Option ℕ) (p : Pending) → ((l : Lane) → Each Other (at l p)) → Each Other (closing o p)
  closing_other none p a = tt
  closing_other (some m) p a =
      each_terminators Other Other (λ _ e. e) (pending_of m p)
      (each_append Other (keep (is_of m) p.ordered) (keep (is_of m) p.unordered) (each_keep Other (is_of m) p.ordered (a Ordered)) (each_keep Other (is_of m) p.unordered (a Unordered)))

  -- ---- one call, with n over

  absent : {room : Room} (s : Sender) (v : Valid room s) → v.fate n ≡ over → (l : Lane) → Each Other (at l s.pending)
  absent s v h l = none_kept (is_of n) (at l s.pending) (over_nothing v n h l)

  module _ {room : Room} (s : Sender) (v : Valid room s) (h : v.fate n ≡ over) where
    -- the chunk that a send takes is of another
    taken_other : (now : ℕ) (c : Chunk) (x : List Chunk) → at (head_lane (with_lifetimes now s).pending) (with_lifetimes now s).pending ≡ c ∷ x → Other c
    taken_other now c x e =
        let g = start_core s.pending v now in
        let p : Pending = (with_lifetimes now s).pending in
        each_first Other (at (head_lane p) p) c (ap first e) (absent (with_lifetimes now s) g.ok (g.stays n h) (head_lane p))

    yields_other : (k : Call) (r : Out Answer) (a x : Option ℕ) (b : Bool) → Does room k s r a x b → Each Other (yielded r.says)
    yields_other k r a x b (streams_only _ _ q _) = rw q tt
    yields_other k r a x b (writes _ _ _ _ _ _) = tt
    yields_other k r a x b (starts _ _ q _) = rw q tt
    yields_other k r a x b (sends now c y _ e _) = (taken_other now c y e, tt)
    yields_other k r a x b (abandons_it _ _ _ q _ _) = rw q tt
    yields_other k r a x b (expires_tail _ _ _ q _ _) = rw q tt
    yields_other k r a x b (expires_whole _ _ _ q _ _) = rw q tt
    yields_other k r a x b (acks _ _ _ q _) = rw q tt
    yields_other k r a x b (pops _ _ _) = tt
    yields_other k r a x b marks = tt

    files_other : (k : Call) → Each Other (files room k s)
    files_other k =
        rw (files_are room k s)
        (each_append Other (yielded (step room k s).says) (closing (abandons k s) s.pending) (yields_other k _ _ _ _ (does room k s)) (closing_other (abandons k s) s.pending (absent s v h)))

    stays_left : Each Left s.flight.entries → (k : Call) (r : Out Answer) (a x : Option ℕ) (b : Bool) → Does room k s r a x b → Each Left r.after.flight.entries
    stays_left g k r a x b (streams_only _ _ _ _) = g
    stays_left g k r a x b (writes _ _ _ _ _ _) = g
    stays_left g k r a x b (starts _ _ _ _) = g
    stays_left g k r a x b (sends now c y _ e _) = each_append Left s.flight.entries (sent_at now c ∷ []) g (left_other (sent_at now c) (taken_other now c y e), tt)
    stays_left g k r a x b (abandons_it c _ _ _ _ _) = left_abandoned Left c.message.number (λ _ q _. q) s g
    stays_left g k r a x b (expires_tail c _ _ _ _ _) = left_abandoned Left c.message.number (λ _ q _. q) s g
    stays_left g k r a x b (expires_whole c _ _ _ _ _) =
        rw (compacted_flight c.message.unordered c.message.stream (with_pending (without c.message.number s.pending) s)) g
    stays_left g k r a x b (acks t _ _ _ _) = each_adjust Left acknowledged left_acknowledged (place t s.flight) s.flight.entries g
    stays_left g k r a x b (pops c f e) = (subst (Each Left) e g).1
    stays_left g k r a x b marks = each_map Left Left to_retransmit left_to_retransmit s.flight.entries g

  -- ---- any calls

  final : {room : Room} (js : List Call) (s : Sender) (v : Valid room s) → v.fate n ≡ over → Each Left s.flight.entries → Final room n js s
  final [] s v h a =
      record {
        gone = rw (over_nothing v n h Ordered, over_nothing v n h Unordered);
        given_up = each_kept Left GivenUp (is_of n) (λ _ e g. g e) s.flight.entries a;
        silent = refl;
        closed = refl;
        ends = last_ends (number_under_way s.pending) (not_under_way s.pending.under_way (at (head_lane s.pending) s.pending) (absent s v h (head_lane s.pending))) s.flight.entries (contiguous s v);
      }
  final {room} (k ∷ js) s v h a =
      let s' : Sender = (step room k s).after in
      let g = (keeps s v k).0 in
      let f = final js s' g.ok (g.stays n h) (stays_left s v h a k _ _ _ _ (does room k s)) in
      record {
        gone = f.gone;
        given_up = f.given_up;
        silent = joined (yielded (step room k s).says) (yields_of room js s') (yields_other s v h k _ _ _ _ (does room k s)) f.silent;
        closed = joined (files room k s) (files_of room js s') (files_other s v h k) f.closed;
        ends = f.ends;
      }
    where
      joined : (l r : List Chunk) → Each Other l → keep (is_of n) r ≡ [] → keep (is_of n) (l ++ r) ≡ []
      joined l r a e = keep_none (is_of n) (l ++ r) (each_append Other l r a (none_kept (is_of n) r e))

-- ---- the call that abandons it

abandons_is : (room : Room) (k : Call) (s : Sender) (n : ℕ) (r : Out Answer) (a x : Option ℕ) (b : Bool) → Does room k s r a x b → a ≡ some n → r.after ≡ abandoned n s
abandons_is room k s n r a x b (streams_only _ _ _ _) e = let z : ◌≡◌ {A = ℕ} 0 1 = cc in absurd (omega arith)
abandons_is room k s n r a x b (writes _ _ _ _ _ _) e = let z : ◌≡◌ {A = ℕ} 0 1 = cc in absurd (omega arith)
abandons_is room k s n r a x b (starts _ _ _ _) e = let z : ◌≡◌ {A = ℕ} 0 1 = cc in absurd (omega arith)
abandons_is room k s n r a x b (sends _ _ _ _ _ _) e = let z : ◌≡◌ {A = ℕ} 0 1 = cc in absurd (omega arith)
abandons_is room k s n r a x b (abandons_it c _ _ _ _ _) e = let q : c.message.number ≡ n = cc in ap (λ (m : ℕ). abandoned m s) q
abandons_is room k s n r a x b (expires_tail c _ _ _ _ _) e = let q : c.message.number ≡ n = cc in ap (λ (m : ℕ). abandoned m s) q
abandons_is room k s n r a x b (expires_whole _ _ _ _ _ _) e = let z : ◌≡◌ {A = ℕ} 0 1 = cc in absurd (omega arith)
abandons_is room k s n r a x b (acks _ _ _ _ _) e = let z : ◌≡◌ {A = ℕ} 0 1 = cc in absurd (omega arith)
abandons_is room k s n r a x b (pops _ _ _) e = let z : ◌≡◌ {A = ℕ} 0 1 = cc in absurd (omega arith)
abandons_is room k s n r a x b marks e = let z : ◌≡◌ {A = ℕ} 0 1 = cc in absurd (omega arith)

pub abandoned_is_final : AbandonedIsFinal
abandoned_is_final room t m ks k n e js =
    let s : Sender = run room ks (fresh t m) in
    let v : Valid room s = reached room t m ks in
    let g = keeps s v k in
    final n js (step room k s).after g.0.ok (g.1 n e)
    (rw (abandons_is room k s n _ _ _ _ (does room k s) e) (left_abandoned n (Entry v.fate v.sheet s.numbers.unstarted) n (λ c _ i. left_other n c i) s v.flown))
