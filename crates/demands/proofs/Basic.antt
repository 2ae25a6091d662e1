-- Cases of a test.
use mathlib.Core.Path.{◌≡◌, refl, sym}
use mathlib.Core.Bool.{Bool, true, false, ◌&&◌, true≢false}
use Rattle.model.specs.Lists.{when◌then◌else◌}

pub if-case {ℓ κ} : {A : Type ℓ} (P : A → Type κ) {x y : A} (b : Bool) → (b ≡ true → P x) → (b ≡ false → P y) → P (when b then x else y)
if-case P true f g = f refl
if-case P false f g = g refl

pub bool_case {κ} : (P : Bool → Type κ) (b : Bool) → (b ≡ true → P true) → (b ≡ false → P false) → P b
bool_case P true f g = f refl
bool_case P false f g = g refl

pub and_l : (a b : Bool) → (a && b) ≡ true → a ≡ true
and_l true b e = refl
and_l false b e = e

pub and_r : (a b : Bool) → (a && b) ≡ true → b ≡ true
and_r true b e = e
and_r false b e = absurd (true≢false (sym e))
