-- A float that two comparisons place between powers of two is finite and above 0, and its own fraction is between them; and a float that is, passes the comparisons. Assumes nothing.
use Rattle.std.proofs.Common.{ℕ, suc, ◌*◌, ◌^◌, ◌≤◌, true, false, T, eqb, pos, negsuc, sym, refl, ap, subst, true≢false, le_trans, le_of_eq, zero-lt-suc, mul-pos, one-mul, mul-one, eqb→eq}
use denote.Floats.{is_true}
use lib.Ieee.{Float, nan, inf, fin, up, down, le}
use lib.Ieee.Exact.{HasValue}
use lib.Ieee.Fits.{down_pos, and_r}
use lib.Ieee.Order.{le_of_values}
use lib.Ieee.Positive.{num, den}
use Rattle.rto.specs.Range.{AtMost}
use Rattle.rto.specs.Usual.{Within}
use Rattle.rto.proofs.Float.{not_zero}
use Rattle.rto.proofs.Value.{lt_or_eq}

-- x as its own fraction, which is not below 1 / 2 ^ (i + 1) and not above 2 ^ k
pub record Fraction (i k : ℕ) (x : Float) : Type 0 where
  pub has : HasValue x false (num x) (den x)
  pub least : den x ≤ num x * 2 ^ suc i
  pub at_most : AtMost x (2 ^ k)
  pub most : num x ≤ 2 ^ k * den x

pub fraction : (i k : ℕ) (x : Float) → Within i k x → Fraction i k x
unfolding le
fraction i k nan w = absurd (true≢false (sym w.least))
fraction i k (inf true) w = absurd (true≢false (sym w.least))
fraction i k (inf false) w = absurd (true≢false (sym w.most))
fraction i k (fin true m e) w =
    absurd (not_zero (1 * down e) (mul-pos (zero-lt-suc 0) (down_pos e)) (eqb→eq (1 * down e) 0 (and_r (eqb (1 * down e) (m * up e * 2 ^ suc i)) (eqb (1 * down e) 0) (subst T (sym w.least) tt))))
fraction i k (fin false m e) w =
    let l : 1 * down e ≤ m * up e * 2 ^ suc i = lt_or_eq (1 * down e) (m * up e * 2 ^ suc i) (subst T (sym w.least) tt) in
    let h : m * up e * 1 ≤ 1 * 2 ^ k * down e = lt_or_eq (m * up e * 1) (1 * 2 ^ k * down e) (subst T (sym w.most) tt) in
    let o : m * up e ≤ 2 ^ k * down e = le_trans (le_of_eq (sym (mul-one (m * up e)))) (le_trans h (le_of_eq (ap (λ (z : ℕ). z * down e) (one-mul (2 ^ k))))) in
    record { has = (refl, refl); least = le_trans (le_of_eq (sym (one-mul (down e)))) l; at_most = (refl, o); most = o }

-- from below by a comparison, from above by a bound
pub within : (i k : ℕ) (x : Float) → T (le (fin false 1 (negsuc i)) x) → AtMost x (2 ^ k) → Within i k x
within i k nan l h = absurd h
within i k (inf s) l h = absurd h
within i k (fin s m e) l h =
    let y = fin false 1 (pos k) in
    record {
      least = is_true (le (fin false 1 (negsuc i)) (fin s m e)) l;
      most =
          is_true (le (fin s m e) y)
          (le_of_values (fin s m e) y (m * up e) (down e) (2 ^ k) 1 (down_pos e) (zero-lt-suc 0) (h.0, refl) (refl, ap (λ (z : ℕ). z * 1) (one-mul (2 ^ k))) (le_trans (le_of_eq (mul-one (m * up e))) h.1));
    }
