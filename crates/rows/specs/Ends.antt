-- A loop that goes down from the end of a list, and changes it by `adjust` while a test holds: `map_end` of `Walks.antt`.
use Rattle.std.specs.Prelude.{◌≡◌, refl, Bool, true, false, ◌&&◌, ℕ, zero, suc, ◌-◌, ◌≤◌, ◌<◌, List, [], ◌∷◌, ◌++◌, map, length, get_or, take, drop}
use Rattle.std.proofs.Common.{sym, ap, ◌∙◌, not-suc-le-zero, le_of_suc-le-suc, arith, append-nil, drop_of_length-le, take_all}
use Rattle.std.proofs.Math.Bool.{and-false}
use Rattle.model.specs.Lists.{when◌then◌else◌, adjust}
use Rattle.rows.specs.Walks.{all, map_end}

module _ {A : Type 0} where
  -- the list when the elements from i on are done
  abbrev tailed : (A → A) → ℕ → List A → List A
  tailed f i l = take i l ++ map f (drop i l)

  tailed_get : (f : A → A) (l : List A) (j : ℕ) (d : A) → j < length l → get_or (tailed f (suc j) l) j d ≡ get_or l j d
  tailed_get f [] j d h = refl
  tailed_get f (x ∷ l) zero d h = refl
  tailed_get f (x ∷ l) (suc j) d h = tailed_get f l j d (le_of_suc-le-suc h)

  tailed_adjust : (f : A → A) (l : List A) (j : ℕ) → j < length l → adjust f j (tailed f (suc j) l) ≡ tailed f j l
  tailed_adjust f [] j h = absurd (not-suc-le-zero h)
  tailed_adjust f (x ∷ l) zero h = refl
  tailed_adjust f (x ∷ l) (suc j) h = ap (λ (r : List A). x ∷ r) (tailed_adjust f l j (le_of_suc-le-suc h))

  module _ (p : A → Bool) (f : A → A) where
    all_more : (l : List A) (j : ℕ) (d : A) → j < length l → all p (drop (suc j) l) ≡ true → p (get_or l j d) ≡ true → all p (drop j l) ≡ true
    all_more [] j d h a q = absurd (not-suc-le-zero h)
    all_more (x ∷ l) zero d h a q = ap (λ (b : Bool). b && all p l) q ∙ a
    all_more (x ∷ l) (suc j) d h a q = all_more l j d (le_of_suc-le-suc h) a q

    not_all : (l : List A) (j : ℕ) (d : A) → j < length l → p (get_or l j d) ≡ false → all p l ≡ false
    not_all [] j d h q = absurd (not-suc-le-zero h)
    not_all (x ∷ l) zero d h q = ap (λ (b : Bool). b && all p l) q
    not_all (x ∷ l) (suc j) d h q = ap (λ (b : Bool). p x && b) (not_all l j d (le_of_suc-le-suc h) q) ∙ and-false (p x)

    pub end_all : (l : List A) → all p l ≡ true → map_end p f l ≡ map f l
    end_all [] a = refl
    end_all (x ∷ l) a = ap (λ (b : Bool). when b then map f (x ∷ l) else (x ∷ map_end p f l)) a

    end_here : (l : List A) (j : ℕ) (d : A) → j < length l → all p (drop (suc j) l) ≡ true → p (get_or l j d) ≡ false → map_end p f l ≡ tailed f (suc j) l
    end_here [] j d h a q = absurd (not-suc-le-zero h)
    end_here (x ∷ l) zero d h a q =
        ap (λ (b : Bool). when b && all p l then map f (x ∷ l) else (x ∷ map_end p f l)) q ∙ ap (λ (r : List A). x ∷ r) (end_all l a)
    end_here (x ∷ l) (suc j) d h a q =
        ap (λ (b : Bool). when b then map f (x ∷ l) else (x ∷ map_end p f l)) (not_all (x ∷ l) (suc j) d h q) ∙ ap (λ (r : List A). x ∷ r) (end_here l j d (le_of_suc-le-suc h) a q)

  -- ---- a turn of the loop, from i to i - 1, and its two ways out: `l` is the list before the loop, `m` the list now, `x` what was read
  abbrev pub Done : (A → Bool) → (A → A) → List A → ℕ → List A → Type 0
  Done p f l i m = (m ≡ tailed f i l) × (all p (drop i l) ≡ true)

  module _ (p : A → Bool) (f : A → A) (l : List A) (i : ℕ) (d : A) (z : 0 < i) (h : i ≤ length l) {m : List A} (v : Done p f l i m) {x : A} (q : x ≡ get_or m (i - 1) d) where
    down : suc (i - 1) ≡ i
    down = omega arith

    fits : i - 1 < length l
    fits = omega arith

    now : m ≡ tailed f (suc (i - 1)) l
    now = v.0 ∙ ap (λ (k : ℕ). tailed f k l) (sym down)

    read : x ≡ get_or l (i - 1) d
    read = q ∙ ap (λ (r : List A). get_or r (i - 1) d) now ∙ tailed_get f l (i - 1) d fits

    rest : all p (drop (suc (i - 1)) l) ≡ true
    rest = ap (λ (k : ℕ). all p (drop k l)) down ∙ v.1

    pub end_turn : p x ≡ true → {m' : List A} → m' ≡ adjust f (i - 1) m → Done p f l (i - 1) m'
    end_turn t s = (
      s ∙ ap (adjust f (i - 1)) now ∙ tailed_adjust f l (i - 1) fits,
      all_more p f l (i - 1) d fits rest (sym (ap p read) ∙ t),
    )

    pub end_stop : p x ≡ false → m ≡ map_end p f l
    end_stop t = now ∙ sym (end_here p f l (i - 1) d fits rest (sym (ap p read) ∙ t))

  pub end_zero : (p : A → Bool) (f : A → A) (l now : List A) (i : ℕ) → i ≡ 0 → Done p f l i now → now ≡ map_end p f l
  end_zero p f l now i z v = v.0 ∙ ap (λ (k : ℕ). tailed f k l) z ∙ sym (end_all p f l (ap (λ (k : ℕ). all p (drop k l)) (sym z) ∙ v.1))

  pub end_start : (p : A → Bool) (f : A → A) (l : List A) (i : ℕ) → length l ≤ i → Done p f l i l
  end_start p f l i h = (
    sym (ap (λ (r : List A). take i l ++ map f r) (drop_of_length-le l h) ∙ append-nil (take i l) ∙ take_all i l h),
    ap (all p) (drop_of_length-le l h),
  )
