-- One turn of a loop over a list that is read by index and changed by `adjust`, going up. `l` is the list before the loop, `m` the list
-- now, and `x` what is read at `i` (`d` where there is nothing).
use Rattle.std.specs.Prelude.{◌≡◌, refl, ℕ, zero, suc, ◌+◌, ◌-◌, ◌≤◌, ◌<◌, min, List, [], ◌∷◌, ◌++◌, map, length, get_or, take, drop}
use Rattle.std.proofs.Common.{ap, ◌∙◌, not-suc-le-zero, le_of_suc-le-suc, add-one, arith, append-nil, length-take, length-drop, drop_of_length-le, drop-cons, take_all}
use Rattle.model.specs.Lists.{adjust}
use Rattle.rows.specs.Parts.{part}

module _ {A : Type 0} where
  pub nil_of : (l : List A) → length l ≡ 0 → l ≡ []
  nil_of l e = let h : length l ≤ 0 = omega arith in drop_of_length-le l h

  -- ---- a loop that reads

  -- what is left from i on is x and what is left from i + 1 on
  pub read_turn : (l : List A) (i : ℕ) (d : A) {x : A} → x ≡ get_or l i d → i < length l → drop i l ≡ x ∷ drop (i + 1) l
  read_turn l i d q h = rw (add-one, q) (drop-cons l i d h)

  pub rest_none : (l : List A) (i : ℕ) → length l ≤ i → drop i l ≡ []
  rest_none l i h = drop_of_length-le l h

  -- the same where the loop ends at b
  pub part_turn : (l : List A) (i b : ℕ) (d : A) {x : A} → x ≡ get_or l i d → i < min b (length l) → part i b l ≡ x ∷ part (i + 1) b l
  part_turn l i b d q h =
      let k : b - i ≡ suc (b - (i + 1)) = omega arith in
      ap (λ (n : ℕ). take n (drop i l)) k ∙ ap (take (suc (b - (i + 1)))) (read_turn l i d q (omega arith))

  pub part_none : (l : List A) (i b : ℕ) → min b (length l) ≤ i → part i b l ≡ []
  part_none l i b h = nil_of (part i b l) (simp (length-take, length-drop) (omega arith))

  -- ---- a loop that puts f of each element in its place

  -- the list when i elements are done
  abbrev pub mapped : (A → A) → ℕ → List A → List A
  mapped f i l = map f (take i l) ++ drop i l

  mapped_suc : (f : A → A) (l : List A) (i : ℕ) → i < length l → adjust f i (mapped f i l) ≡ mapped f (suc i) l
  mapped_suc f [] i h = absurd (not-suc-le-zero h)
  mapped_suc f (x ∷ l) zero h = refl
  mapped_suc f (x ∷ l) (suc i) h = ap (λ (r : List A). f x ∷ r) (mapped_suc f l i (le_of_suc-le-suc h))

  abbrev pub Mapped : (A → A) → List A → ℕ → List A → Type 0
  Mapped f l i m = m ≡ mapped f i l

  module _ (f : A → A) (l : List A) (i : ℕ) {m : List A} (v : Mapped f l i m) where
    pub map_done : length l ≤ i → m ≡ map f l
    map_done h =
        v ∙ ap (λ (r : List A). map f r ++ drop i l) (take_all i l h) ∙ ap (λ (r : List A). map f l ++ r) (drop_of_length-le l h) ∙ append-nil (map f l)

    pub map_turn : i < length l → {m' : List A} → m' ≡ adjust f i m → Mapped f l (i + 1) m'
    map_turn h s = s ∙ ap (adjust f i) v ∙ rw add-one (mapped_suc f l i h)
