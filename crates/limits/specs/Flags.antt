-- A flag as a number.
use Rattle.std.specs.Prelude.{◌≡◌, refl, Bool, true, false, not, ℕ, eqb}
use Rattle.std.proofs.Common.{ap, eq-eqb, ne_eqb}

-- 1 for yes, 0 for no
abbrev pub bit_of : Bool → ℕ
bit_of true = 1
bit_of false = 0

-- any byte but 0 is yes
abbrev pub is_set : ℕ → Bool
is_set n = not (eqb n 0)

pub is_set_lem : {n : ℕ} → (n ≡ 0 → ⊥) → is_set n ≡ true
is_set_lem {n} h = ap not (ne_eqb n 0 h)

pub not_set : {n : ℕ} → n ≡ 0 → is_set n ≡ false
not_set {n} h = ap not (eq-eqb n 0 h)

-- what was packed means what it was
pub set_back : (b : Bool) → is_set (bit_of b) ≡ b
set_back true = refl
set_back false = refl
