-- What was written of one value is what was written of another that is the same. `vs` and `r` are the tape then and the place behind.
use Rattle.std.specs.Prelude.{◌≡◌, List, ◌++◌, ℕ}
use Rattle.std.proofs.Common.{sym, ap, ◌∙◌}
use Rattle.std.proofs.lemmas.List.Edits.{sets}

pub worded : {A : Type 0} {x y : A} (f : A → List ℕ) (ws vs : List ℕ) (at r : ℕ) → x ≡ y → ((us : List ℕ) → sets vs r us ≡ sets ws at (f y ++ us)) → (us : List ℕ) → sets vs r us ≡ sets ws at (f x ++ us)
worded {A} f ws vs at r e p us = p us ∙ ap (λ (a : A). sets ws at (f a ++ us)) (sym e)
