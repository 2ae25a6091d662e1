-- What holds of each of a list, and what is kept of one: laws over the element and the predicate.
use Prim.Native.Nat.{ℕ, zero, suc, ◌≤◌}
use native.Mathlib.Nat.{le_refl}
use native.Mathlib.Omega.{arith}
use mathlib.Core.Path.{◌≡◌, refl, subst}
use mathlib.Core.Logic.{◌≢◌}
use mathlib.Core.Bool.{Bool, true, false}
use mathlib.Core.Option.{some}
use mathlib.Core.List.{List, [], ◌∷◌, ◌++◌, map, cons≢nil}
use lib.ListN.{length, get_elem?}
use Rattle.model.specs.Lists.{when◌then◌else◌, keep, first, last, adjust}
use Rattle.demands.specs.Words.{Each}
use Rattle.demands.proofs.Basic.{if-case, bool_case}

pub each_weaken : {A : Type 0} (P Q : A → Type 0) → ((x : A) → P x → Q x) → (l : List A) → Each P l → Each Q l
each_weaken P Q h [] a = tt
each_weaken P Q h (x ∷ l) a = (h x a.0, each_weaken P Q h l a.1)

pub each_map : {A B : Type 0} (P : A → Type 0) (Q : B → Type 0) (f : A → B) → ((x : A) → P x → Q (f x)) → (l : List A) → Each P l → Each Q (map f l)
each_map P Q f h [] a = tt
each_map P Q f h (x ∷ l) a = (h x a.0, each_map P Q f h l a.1)

pub each_unmap : {A B : Type 0} (P : A → Type 0) (Q : B → Type 0) (f : A → B) → ((x : A) → Q (f x) → P x) → (l : List A) → Each Q (map f l) → Each P l
each_unmap P Q f h [] a = tt
each_unmap P Q f h (x ∷ l) a = (h x a.0, each_unmap P Q f h l a.1)

pub each_append : {A : Type 0} (P : A → Type 0) (l r : List A) → Each P l → Each P r → Each P (l ++ r)
each_append P [] r a b = b
each_append P (x ∷ l) r a b = (a.0, each_append P l r a.1 b)

-- both parts of what is joined
pub each_parts : {A : Type 0} (P : A → Type 0) (l r : List A) → Each P (l ++ r) → Each P l × Each P r
each_parts P [] r a = (tt, a)
each_parts P (x ∷ l) r a = let b = each_parts P l r a.1 in ((a.0, b.0), b.1)

-- what is kept passes the test
pub each_kept : {A : Type 0} (P Q : A → Type 0) (p : A → Bool) → ((x : A) → p x ≡ true → P x → Q x) → (l : List A) → Each P l → Each Q (keep p l)
each_kept P Q p h [] a = tt
each_kept P Q p h (x ∷ l) a =
    if-case (Each Q) (p x) (λ e. (h x e a.0, each_kept P Q p h l a.1)) (λ _. each_kept P Q p h l a.1)

pub each_keep : {A : Type 0} (P : A → Type 0) (p : A → Bool) (l : List A) → Each P l → Each P (keep p l)
each_keep P p l a = each_kept P P p (λ _ _ q. q) l a

-- the same, with the test beside it
pub each_passing : {A : Type 0} (P : A → Type 0) (p : A → Bool) (l : List A) → Each P l → Each (λ x. P x × (p x ≡ true)) (keep p l)
each_passing P p l a = each_kept P (λ x. P x × (p x ≡ true)) p (λ _ e q. (q, e)) l a

-- what is kept, and what isn't
pub each_unkeep : {A : Type 0} (P : A → Type 0) (p : A → Bool) → ((x : A) → p x ≡ false → P x) → (l : List A) → Each P (keep p l) → Each P l
each_unkeep P p h [] a = tt
each_unkeep P p h (x ∷ l) a =
    bool_case (λ b. p x ≡ b → Each P (when b then (x ∷ keep p l) else keep p l) → Each P (x ∷ l)) (p x)
    (λ _ _ q. (q.0, each_unkeep P p h l q.1)) (λ _ e q. (h x e, each_unkeep P p h l q)) refl a

pub each_adjust : {A : Type 0} (P : A → Type 0) (f : A → A) → ((x : A) → P x → P (f x)) → (i : ℕ) (l : List A) → Each P l → Each P (adjust f i l)
each_adjust P f h i [] a = tt
each_adjust P f h zero (x ∷ l) a = (h x a.0, a.1)
each_adjust P f h (suc i) (x ∷ l) a = (a.0, each_adjust P f h i l a.1)

pub each_get : {A : Type 0} (P : A → Type 0) (l : List A) (i : ℕ) (x : A) → get_elem? l i ≡ some x → Each P l → P x
each_get P [] i x e a = let z : ◌≡◌ {A = ℕ} 0 1 = cc in absurd (omega arith)
each_get P (y ∷ l) zero x e a = let q : y ≡ x = cc in subst P q a.0
each_get P (y ∷ l) (suc i) x e a = each_get P l i x e a.1

pub each_first : {A : Type 0} (P : A → Type 0) (l : List A) (x : A) → first l ≡ some x → Each P l → P x
each_first P [] x e a = let z : ◌≡◌ {A = ℕ} 0 1 = cc in absurd (omega arith)
each_first P (y ∷ l) x e a = let q : y ≡ x = cc in subst P q a.0

module _ {A : Type 0} where
  pub each_last : (P : A → Type 0) (l : List A) (x : A) → last l ≡ some x → Each P l → P x
  each_last P [] x e a = let z : ◌≡◌ {A = ℕ} 0 1 = cc in absurd (omega arith)
  each_last P (y ∷ []) x e a = let q : y ≡ x = cc in subst P q a.0
  each_last P (y ∷ z ∷ l) x e a = each_last P (z ∷ l) x e a.1

  pub each_has : (P : A → Type 0) (p : A → Bool) (l : List A) → keep p l ≢ [] → Each P l → (x : A) × P x × (p x ≡ true)
  each_has P p [] h a = absurd (h refl)
  each_has P p (y ∷ l) h a =
      bool_case (λ b. p y ≡ b → (when b then (y ∷ keep p l) else keep p l) ≢ [] → (x : A) × P x × (p x ≡ true)) (p y) (λ _ e _. (y, a.0, e)) (λ _ _ h. each_has P p l h a.1) refl h

  -- ---- keep

  pub keep_shorter : (p : A → Bool) (l : List A) → length (keep p l) ≤ length l
  keep_shorter p [] = le_refl 0
  keep_shorter p (x ∷ l) = let ih = keep_shorter p l in if-case (λ (y : List A). length y ≤ suc (length l)) (p x) (λ _. omega arith) (λ _. omega arith)

  pub keep_none : (p : A → Bool) (l : List A) → Each (λ x. p x ≡ false) l → keep p l ≡ []
  keep_none p [] a = refl
  keep_none p (x ∷ l) a = rw a.0 (keep_none p l a.1)

  pub none_kept : (p : A → Bool) (l : List A) → keep p l ≡ [] → Each (λ x. p x ≡ false) l
  none_kept p [] e = tt
  none_kept p (x ∷ l) e =
      bool_case (λ b. (when b then (x ∷ keep p l) else keep p l) ≡ [] → (b ≡ false) × Each (λ x. p x ≡ false) l) (p x)
      (λ _ q. absurd (cons≢nil q)) (λ _ q. (refl, none_kept p l q)) e

  -- ---- the last

  pub last_behind : (l r : List A) (x : A) → (y : A) × (last (l ++ (x ∷ r)) ≡ some y)
  last_behind [] [] x = (x, refl)
  last_behind [] (y ∷ r) x = last_behind [] r y
  last_behind (z ∷ []) r x = last_behind [] r x
  last_behind (z ∷ w ∷ l) r x = last_behind (w ∷ l) r x
