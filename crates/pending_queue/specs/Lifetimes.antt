-- Lifetimes start from the back of a ring.
use Rattle.std.specs.Prelude.{◌≡◌, ℕ, ◌+◌, ◌≤◌, Bool, true, false, ◌&&◌, List, [], ◌∷◌, map, nat_le, refl, Some}
use Rattle.std.proofs.Common.{sym, ap, ap₂, ◌∙◌, arith, leb-true, le-leb}
use Rattle.model.specs.declared.Chunk.{Chunk}
use Rattle.model.specs.State.{Lane, Unordered, Ordered, Pending, at, in_rings}
use Rattle.model.specs.Lists.{when◌then◌else◌}
use Rattle.model.specs.Rings.{started, has_lifetime, renewed, with_message, bytes}
use Rattle.demands.specs.States.{Ascending}
use Rattle.rows.specs.Walks.{all, map_end}
use Rattle.rows.specs.Ends.{end_all}
use Rattle.ring.specs.Sums.{bytes_map}
use Rattle.pending_queue.specs.Queue.{both}

-- a message not yet seen
abbrev pub unseen : (unstarted : ℕ) → Chunk → Bool
unseen k c = nat_le k c.message.number

-- the chunks at the end, as far back as their messages are not yet seen, are started
abbrev pub started_end : (now unstarted : ℕ) → List Chunk → List Chunk
started_end now k l = map_end (unseen k) (started now k) l

module _ (now k : ℕ) where
  -- it leaves the lengths
  pub started_bytes : (l : List Chunk) → bytes (started_end now k l) ≡ bytes l
  started_bytes [] = refl
  started_bytes (c ∷ l) = by (all (unseen k) (c ∷ l)) (started_bytes l)
    where
      by : (b : Bool) → bytes (started_end now k l) ≡ bytes l → bytes (when b then map (started now k) (c ∷ l) else (c ∷ started_end now k l)) ≡ bytes (c ∷ l)
      by true h = bytes_map (started now k) (λ (d : Chunk). refl) (c ∷ l)
      by false h = omega arith

  -- ---- in a ring in the order of the message numbers these are all that are not yet seen

  unseen_all : (n : ℕ) (l : List Chunk) → k ≤ n → Ascending n l → all (unseen k) l ≡ true
  unseen_all n [] h a = refl
  unseen_all n (c ∷ l) h a =
      let z : k ≤ c.message.number = omega arith in
      ap₂ (λ (x y : Bool). x && y) (le-leb k c.message.number z) (unseen_all c.message.number l z a.1)

  seen_same : (c : Chunk) → unseen k c ≡ false → c ≡ started now k c
  seen_same c e = sym (ap (λ (b : Bool). with_message (when b && has_lifetime c.message then renewed c.message.ssn (Some (now + c.message.reliability.value)) c.message else c.message) c) e)

  pub started_all : (n : ℕ) (l : List Chunk) → Ascending n l → started_end now k l ≡ map (started now k) l
  started_all n [] a = refl
  started_all n (c ∷ l) a = by (unseen k c) refl (started_all c.message.number l a.1)
    where
      by : (b : Bool) → unseen k c ≡ b → started_end now k l ≡ map (started now k) l → started_end now k (c ∷ l) ≡ map (started now k) (c ∷ l)
      by true e h =
          let z = leb-true k c.message.number e in
          end_all (unseen k) (started now k) (c ∷ l) (ap₂ (λ (x y : Bool). x && y) e (unseen_all c.message.number l z a.1))
      by false e h =
          ap (λ (b : Bool). when b && all (unseen k) l then map (started now k) (c ∷ l) else (c ∷ started_end now k l)) e
          ∙ ap₂ (λ (d : Chunk) (r : List Chunk). d ∷ r) (seen_same c e) h

  -- so, in both rings
  pub started_rings : (p : Pending) → ((l : Lane) → Ascending 0 (at l p)) → in_rings (started_end now k) p ≡ in_rings (map (started now k)) p
  started_rings p a = both refl (started_all 0 p.unordered (a Unordered)) (started_all 0 p.ordered (a Ordered))
