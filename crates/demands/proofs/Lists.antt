-- What holds of each chunk of the rings and of the flight, together.
use Prim.Native.Nat.{ℕ}
use mathlib.Core.Path.{◌≡◌, refl, subst}
use mathlib.Core.Bool.{Bool, true, not}
use mathlib.Core.Option.{some}
use mathlib.Core.List.{List, [], ◌∷◌, ◌++◌, map}
use Rattle.model.specs.declared.Chunk.{Chunk}
use Rattle.model.specs.State.{Lane, Unordered, Ordered, UnderWay, Pending, at, in_rings, with_ring, is_of}
use Rattle.model.specs.Lists.{keep, last}
use Rattle.model.specs.Rings.{head_lane, head, without, pending_of, given_up, terminator, terminators, sent_at}
use Rattle.demands.specs.Words.{Each}
use Rattle.demands.proofs.Each.{each_weaken, each_map, each_append, each_parts, each_kept, each_keep, each_first}

pub each_terminators : (P Q : Chunk → Type 0) → ((c : Chunk) → P c → Q (terminator c)) → (l : List Chunk) → Each P l → Each Q (terminators (last l))
each_terminators P Q h [] a = tt
each_terminators P Q h (c ∷ []) a = (h c a.0, tt)
each_terminators P Q h (c ∷ d ∷ l) a = each_terminators P Q h (d ∷ l) a.1

-- ---- the rings and the flight

-- P of each chunk of a ring, Q of each entry
pub record Lists (P : Lane → Chunk → Type 0) (Q : Chunk → Type 0) (p : Pending) (f : List Chunk) : Type 0 where
  pub pending : (l : Lane) → Each (P l) (at l p)
  pub flying : Each Q f

-- a ring is another
pub at_ring : (P : Lane → List Chunk → Type 0) (k : Lane) (w : UnderWay) (x : List Chunk) (p : Pending) → P k x → ((l : Lane) → P l (at l p)) → (l : Lane) → P l (at l (with_ring k w x p))
at_ring P Unordered w x p a h Unordered = a
at_ring P Unordered w x p a h Ordered = h Ordered
at_ring P Ordered w x p a h Unordered = h Unordered
at_ring P Ordered w x p a h Ordered = a

-- chunks joined a ring
pub joined_parts : (P : Chunk → Type 0) (k : Lane) (w : UnderWay) (x : List Chunk) (p : Pending) → ((l : Lane) → Each P (at l (with_ring k w (at k p ++ x) p))) → ((l : Lane) → Each P (at l p)) × Each P x
joined_parts P Unordered w x p h =
    let a = each_parts P p.unordered x (h Unordered) in (λ l. elim l as (λ k. Each P (at k p)) [ Unordered ↦ a.0 | Ordered ↦ h Ordered ], a.1)
joined_parts P Ordered w x p h =
    let a = each_parts P p.ordered x (h Ordered) in (λ l. elim l as (λ k. Each P (at k p)) [ Unordered ↦ h Unordered | Ordered ↦ a.0 ], a.1)

-- both rings are changed alike
pub at_both : (P : Lane → List Chunk → Type 0) (g : List Chunk → List Chunk) (p : Pending) → ((l : Lane) → P l (g (at l p))) → (l : Lane) → P l (at l (in_rings g p))
at_both P g p h Unordered = h Unordered
at_both P g p h Ordered = h Ordered

abbrev pub not_of : (number : ℕ) → Chunk → Bool
not_of n c = not (is_of n c)

pub at_without : (n : ℕ) (p : Pending) (l : Lane) → at l (without n p) ≡ keep (not_of n) (at l p)
at_without n p Unordered = refl
at_without n p Ordered = refl

module _ (P : Lane → Chunk → Type 0) (Q : Chunk → Type 0) where
  pub lists_head : (p : Pending) (f : List Chunk) (c : Chunk) → head p ≡ some c → Lists P Q p f → P (head_lane p) c
  lists_head p f c e v = each_first (P (head_lane p)) (at (head_lane p) p) c e (v.pending (head_lane p))

  pub lists_weaken : (P' : Lane → Chunk → Type 0) (Q' : Chunk → Type 0) → ((l : Lane) (c : Chunk) → P l c → P' l c) → ((c : Chunk) → Q c → Q' c) → (p : Pending) (f : List Chunk)
      → Lists P Q p f → Lists P' Q' p f
  lists_weaken P' Q' h k p f v = record { pending = λ l. each_weaken (P l) (P' l) (h l) (at l p) (v.pending l); flying = each_weaken Q Q' k f v.flying }

  -- each pending chunk is changed by g
  pub lists_map : (P' : Lane → Chunk → Type 0) (Q' : Chunk → Type 0) (g : Chunk → Chunk) → ((l : Lane) (c : Chunk) → P l c → P' l (g c)) → ((c : Chunk) → Q c → Q' c) → (p : Pending) (f : List Chunk)
      → Lists P Q p f → Lists P' Q' (in_rings (map g) p) f
  lists_map P' Q' g h k p f v =
      record {
        pending = at_both (λ l x. Each (P' l) x) (map g) p (λ l. each_map (P l) (P' l) g (h l) (at l p) (v.pending l));
        flying = each_weaken Q Q' k f v.flying;
      }

  pub lists_ring : (k : Lane) (w : UnderWay) (x : List Chunk) (p : Pending) (f : List Chunk) → Each (P k) x → Lists P Q p f → Lists P Q (with_ring k w x p) f
  lists_ring k w x p f a v = record { pending = at_ring (λ l y. Each (P l) y) k w x p a v.pending; flying = v.flying }

  pub lists_pushed : (k : Lane) (w : UnderWay) (x : List Chunk) (p : Pending) (f : List Chunk) → Each (P k) x → Lists P Q p f → Lists P Q (with_ring k w (at k p ++ x) p) f
  lists_pushed k w x p f a v = lists_ring k w (at k p ++ x) p f (each_append (P k) (at k p) x (v.pending k) a) v

  -- the front of a ring goes to the flight
  pub lists_taken : (now : ℕ) (k : Lane) (w : UnderWay) (c : Chunk) (x : List Chunk) (p : Pending) (f : List Chunk) → at k p ≡ c ∷ x → (P k c → Q (sent_at now c))
      → Lists P Q p f → Lists P Q (with_ring k w x p) (f ++ (sent_at now c ∷ []))
  lists_taken now k w c x p f e h v =
      let a : P k c × Each (P k) x = subst (Each (P k)) e (v.pending k) in
      record { pending = (lists_ring k w x p f a.1 v).pending; flying = each_append Q f (sent_at now c ∷ []) v.flying (h a.0, tt) }

  -- a message leaves the rings
  pub lists_without : (n : ℕ) (p : Pending) (f : List Chunk) → Lists P Q p f → Lists P Q (without n p) f
  lists_without n p f v = record { pending = λ l. rw (at_without n p l) (each_keep (P l) (not_of n) (at l p) (v.pending l)); flying = v.flying }

  pub lists_abandoned : (n : ℕ) (p : Pending) (f : List Chunk) → ((c : Chunk) → Q c → Q (given_up n c)) → ((l : Lane) (c : Chunk) → is_of n c ≡ true → P l c → Q (terminator c))
      → Lists P Q p f → Lists P Q (without n p) (map (given_up n) f ++ terminators (last (pending_of n p)))
  lists_abandoned n p f g h v =
      let T : Chunk → Type 0 = λ c. Q (terminator c) in
      let r : (l : Lane) → Each T (keep (is_of n) (at l p)) = λ l. each_kept (P l) T (is_of n) (h l) (at l p) (v.pending l) in
      record {
        pending = (lists_without n p f v).pending;
        flying = each_append Q (map (given_up n) f) (terminators (last (pending_of n p))) (each_map Q Q (given_up n) g f v.flying)
            (each_terminators T Q (λ _ q. q) (pending_of n p) (each_append T (keep (is_of n) p.ordered) (keep (is_of n) p.unordered) (r Ordered) (r Unordered)));
      }
