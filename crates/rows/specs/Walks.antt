-- Walks over a list by a test, for invariants and for the contracts of private functions; `some_of` is the model's.
use Rattle.std.specs.Prelude.{◌≡◌, refl, Bool, true, false, ◌||◌, ◌&&◌, ℕ, ◌+◌, List, [], ◌∷◌, ◌++◌, map}
use Rattle.std.proofs.Common.{sym, ap, ◌∙◌}
use Rattle.std.proofs.Math.Bool.{or_assoc}
use Rattle.model.specs.Lists.{when◌then◌else◌, some_of}

module _ {A : Type 0} where
  -- the longest prefix whose elements all pass
  abbrev pub take_while : (A → Bool) → List A → List A
  take_while p [] = []
  take_while p (x ∷ l) = when p x then (x ∷ take_while p l) else []

  -- what is left behind it
  abbrev pub drop_while : (A → Bool) → List A → List A
  drop_while p [] = []
  drop_while p (x ∷ l) = when p x then drop_while p l else (x ∷ l)

  abbrev pub all : (A → Bool) → List A → Bool
  all p [] = true
  all p (x ∷ l) = p x && all p l

  -- how many pass
  abbrev pub count : (A → Bool) → List A → ℕ
  count p [] = 0
  count p (x ∷ l) = (when p x then 1 else 0) + count p l

  -- f of the longest suffix whose elements all pass
  abbrev pub map_end : (A → Bool) → (A → A) → List A → List A
  map_end p f [] = []
  map_end p f (x ∷ l) = when all p (x ∷ l) then map f (x ∷ l) else (x ∷ map_end p f l)

-- ---- a step of each walk, at a list that is known to be `x ∷ rest`
module _ {A : Type 0} (p : A → Bool) {l rest : List A} {x : A} (q : l ≡ x ∷ rest) where
  pub some_hit : p x ≡ true → some_of p l ≡ true
  some_hit h = ap (some_of p) q ∙ ap (λ (b : Bool). b || some_of p rest) h

  pub some_miss : p x ≡ false → some_of p l ≡ some_of p rest
  some_miss h = ap (some_of p) q ∙ ap (λ (b : Bool). b || some_of p rest) h

  pub take_hit : p x ≡ true → take_while p l ≡ x ∷ take_while p rest
  take_hit h = ap (take_while p) q ∙ ap (λ (b : Bool). when b then (x ∷ take_while p rest) else []) h

  pub take_miss : p x ≡ false → take_while p l ≡ []
  take_miss h = ap (take_while p) q ∙ ap (λ (b : Bool). when b then (x ∷ take_while p rest) else []) h

  pub drop_hit : p x ≡ true → drop_while p l ≡ drop_while p rest
  drop_hit h = ap (drop_while p) q ∙ ap (λ (b : Bool). when b then drop_while p rest else (x ∷ rest)) h

  pub drop_miss : p x ≡ false → drop_while p l ≡ l
  drop_miss h = ap (drop_while p) q ∙ ap (λ (b : Bool). when b then drop_while p rest else (x ∷ rest)) h ∙ sym q

-- ---- a search in one list, and then in another; `r` is what the first found
pub some_in : {A : Type 0} (p : A → Bool) (l m : List A) {r : Bool} → r ≡ some_of p l → (r || some_of p m) ≡ some_of p (l ++ m)
some_in p [] m e = ap (λ (b : Bool). b || some_of p m) e
some_in p (x ∷ l) m e = ap (λ (b : Bool). b || some_of p m) e ∙ or_assoc (p x) (some_of p l) (some_of p m) ∙ ap (λ (b : Bool). p x || b) (some_in p l m refl)
