-- `adjust` of the model in the words of `lib.ListN`. `d` is any element: it is read only where nothing is put.
use Rattle.std.specs.Prelude.{◌≡◌, refl, ℕ, zero, suc, ◌≤◌, List, [], ◌∷◌, length, get_or, set}
use Rattle.std.proofs.Common.{ap, ◌∙◌}
use Rattle.std.proofs.lemmas.List.{set-get_or}
use Rattle.std.proofs.Math.Seq.{set_out}
use Rattle.model.specs.Lists.{adjust}

module _ {A : Type 0} where
  pub adjust_set : (f : A → A) (i : ℕ) (l : List A) (d : A) → adjust f i l ≡ set l i (f (get_or l i d))
  adjust_set f zero [] d = refl
  adjust_set f (suc i) [] d = refl
  adjust_set f zero (x ∷ l) d = refl
  adjust_set f (suc i) (x ∷ l) d = ap (λ (r : List A). x ∷ r) (adjust_set f i l d)

  -- an element that f leaves as it is, or one that is not there
  pub adjust_same : (f : A → A) (i : ℕ) (l : List A) (d : A) → f (get_or l i d) ≡ get_or l i d → adjust f i l ≡ l
  adjust_same f i l d e = adjust_set f i l d ∙ ap (set l i) e ∙ set-get_or l i d

  pub adjust_out : (f : A → A) (i : ℕ) (l : List A) (d : A) → length l ≤ i → adjust f i l ≡ l
  adjust_out f i l d h = adjust_set f i l d ∙ set_out l i (f (get_or l i d)) h
