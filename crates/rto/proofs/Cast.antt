-- Rust's saturating cast of a float to a `u64`, at the two ends: 0 where the float is not at least 1, and the largest number where it is at least 1 and not below 2 ^ 64.
-- And a float that is at least 1 is above -1, as the library's cast asks. Assumes nothing.
use Rattle.std.proofs.Common.{◌≡◌, ℕ, ◌+◌, ◌-◌, ◌*◌, ◌/◌, ◌^◌, ◌<◌, ◌≤◌, min, Bool, true, false, not, ◌&&◌, ◌||◌, T, eqb, ltb, pos, sym, refl, ap, ◌∙◌, subst, true≢false, zero-lt-suc, mul-pos, le-div_iff_mul-le, mul-one, arith, eqb→eq, lt→ltb, nltb→le, pow_pos, ltb-false, lt-ltb}
use mathlib.Core.Bool.{and-true}
use native.Mathlib.Nat.{div-eq_of_lt}
use borrow.Author.Tests.{eqb-false}
use lib.Ieee.{Float, nan, inf, fin, up, down, lt, le, to_unsigned}
use lib.Ieee.Fits.{down_pos, and_r}
use Rattle.rto.proofs.Float.{not_zero}

is_false : (b : Bool) → T b → b ≡ false → ⊥
is_false true t e = true≢false e
is_false false t e = t

not_T : (b : Bool) → b ≡ false → T (not b)
not_T true e = absurd (true≢false e)
not_T false e = tt

sum_pos : (a b : ℕ) → 0 < a → 0 < a + b
sum_pos a b h = omega arith

sum_pos' : (a b : ℕ) → 0 < b → 0 < a + b
sum_pos' a b h = omega arith

or_l : (a b : Bool) → (a || b) ≡ false → a ≡ false
or_l true b e = e
or_l false b e = refl

or_r : (a b : Bool) → (a || b) ≡ false → b ≡ false
or_r true b e = absurd (true≢false e)
or_r false b e = e

-- a comparison of two floats that are not negative, where it is false
over : (a b : ℕ) → (ltb a b || (eqb a b && true)) ≡ false → b < a
over a b e =
    let h : b ≤ a = ltb-false a b (or_l (ltb a b) (eqb a b && true) e) in
    let n : a ≡ b → ⊥ = eqb-false a b (sym (and-true (eqb a b)) ∙ or_r (ltb a b) (eqb a b && true) e) in
    omega arith

none : (a b : ℕ) → a * 1 < 1 * b → min (a / b) (2 ^ 64 - 1) ≡ 0
none a b h = let l : a < b = omega arith in ap (λ (q : ℕ). min q (2 ^ 64 - 1)) (div-eq_of_lt l)

pub low : (x : Float) → le (fin false 1 (pos 0)) x ≡ false → to_unsigned 64 x ≡ 0
unfolding le to_unsigned
low nan e = refl
low (inf true) e = refl
low (inf false) e = absurd (true≢false e)
low (fin true m d) e = refl
low (fin false m d) e = none (m * up d) (down d) (over (1 * down d) (m * up d * 1) e)

pub above : (x : Float) → le (fin false 1 (pos 0)) x ≡ true → lt (fin true 1 (pos 0)) x ≡ true
unfolding le
above nan e = absurd (true≢false (sym e))
above (inf true) e = absurd (true≢false (sym e))
above (inf false) e = refl
above (fin true m d) e =
    absurd (not_zero (1 * down d) (mul-pos (zero-lt-suc 0) (down_pos d)) (eqb→eq (1 * down d) 0 (and_r (eqb (1 * down d) (m * up d * 1)) (eqb (1 * down d) 0) (subst T (sym e) tt))))
above (fin false m d) e = lt-ltb 0 (1 * down d + m * up d * 1) (sum_pos (1 * down d) (m * up d * 1) (mul-pos (zero-lt-suc 0) (down_pos d)))

capped : (a : ℕ) → 2 ^ 64 ≤ a → min a (2 ^ 64 - 1) ≡ 2 ^ 64 - 1
capped a h = omega arith

pub high : (x : Float) → le (fin false 1 (pos 0)) x ≡ true → lt x (fin false 1 (pos 64)) ≡ false → to_unsigned 64 x ≡ 2 ^ 64 - 1
unfolding le to_unsigned
high nan e f = absurd (true≢false (sym e))
high (inf true) e f = absurd (true≢false f)
high (inf false) e f = refl
high (fin true m d) e f =
    absurd (is_false (ltb 0 (m * up d * 1 + 2 ^ 64 * down d)) (lt→ltb 0 (m * up d * 1 + 2 ^ 64 * down d) (sum_pos' (m * up d * 1) (2 ^ 64 * down d) (mul-pos (pow_pos 64) (down_pos d)))) f)
high (fin false m d) e f =
    capped (m * up d / down d)
    ((le-div_iff_mul-le (down_pos d)).1 (subst (λ (z : ℕ). 2 ^ 64 * down d ≤ z) (mul-one (m * up d)) (nltb→le (m * up d * 1) (2 ^ 64 * down d) (not_T (ltb (m * up d * 1) (2 ^ 64 * down d)) f))))
