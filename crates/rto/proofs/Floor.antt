-- floor(4 x) of a float x from 1/16 to 2 ^ 32, from its bits: above the 52 digits that they end with stands an exponent from 1019 to 1055, and the digits with the leading one, shifted down
-- by 1073 less that, are the floor. For 4 x is a float as it is, and x is a whole number of units 1 / 2 ^ 1074. Assumes nothing.
use Rattle.std.proofs.Common.{◌≡◌, ℕ, zero, suc, ◌+◌, ◌-◌, ◌*◌, ◌/◌, ◌%◌, ◌^◌, ◌<◌, ◌≤◌, min, Bool, true, false, ◌&&◌, T, eqb, ltb, leb, ℤ, pos, negsuc, sym, refl, ap, ◌∙◌, subst, true≢false, le_trans, le_of_eq, lt_of_lt_of_le, le_of_suc-le-suc, lt_of_le_of_lt, lt_irrefl, mul-le-mul_right, zero-lt-suc, mul_assoc, mul_comm, div-lt_iff_lt-mul, mul-le-mul_left, mul-lt-mul_of_pos_right, mul-pos, one-mul, lt_of_not-le, le-div_iff_mul-le, zero-mul, mul-one, mul_right_comm, not-le_of_lt, mul_left_comm, arith, lit<, lit≤, ltb→lt, leb→le, pow_pos, pow_mono, pow-add, shr-shr}
use native.Mathlib.Nat.{mul-mul-mul_comm, div-div-eq-div-mul}
use lib.Pow.{pow-lt, high, low}
use lib.Ieee.{Float, nan, inf, fin, binary64, up, down, size, mul, to_unsigned, fits, to_bits}
use lib.Ieee.Digits.{size-lt, size-le, size_reaches}
use lib.Ieee.Exact.{HasValue}
use lib.Ieee.Fits.{and_l, and_r, down_pos, kept-lt}
use lib.Ieee.Nearest.{div_same}
use lib.Ieee.Positive.{num, den, den_pos}
use Rattle.rto.specs.Rto.{f64, four_times}
use Rattle.rto.specs.Usual.{AfterUsual}
use Rattle.rto.proofs.Float.{whole, plain, mul_at, written, dyadic}
use Rattle.rto.proofs.Value.{bits_at}
use Rattle.rto.proofs.Within.{Fraction, fraction}

-- ---- 4 x, as it is
pow_le_back : (i j : ℕ) → 2 ^ i ≤ 2 ^ j → i ≤ j
pow_le_back i j h = le_of_suc-le-suc (lt_of_not-le (λ (g : suc j ≤ i). not-le_of_lt (pow-lt g) h))

grown : (m p b : ℕ) → suc m * p ≤ b * 1 → p ≤ b
grown m p b h = le_trans (le_of_eq (sym (one-mul p))) (le_trans (mul-le-mul_right p (zero-lt-suc m)) (le_trans h (le_of_eq (mul-one b))))

two_more : (i : ℕ) → i ≤ 32 → i + 2 ≤ 900
two_more i h = omega arith

-- what the format says of a float above 0
digits_fit : (s : Bool) (m : ℕ) (e : ℤ) → T (fits binary64 (fin s (suc m) e)) → (suc m < 2 ^ 53) × (down e ≤ 2 ^ 1074)
unfolding fits
digits_fit s m e t =
    let a : Bool = eqb (suc m % 2) 1 in
    let b : Bool = ltb (suc m) (2 ^ 53) in
    let c : Bool = leb (down e) (2 ^ 1074) in
    let d : Bool = ltb (suc m * up e) (2 ^ 1024 * down e) in
    (ltb→lt (suc m) (2 ^ 53) (and_r a b (and_l (a && b) c (and_l (a && b && c) d t))), leb→le (down e) (2 ^ 1074) (and_r (a && b) c (and_l (a && b && c) d t)))

four_exact : (x : Float) → T (fits binary64 x) → Fraction 3 32 x → HasValue (mul binary64 (f64 4) x) false (num x * 4) (den x)
four_exact nan t w = absurd w.has
four_exact (inf s) t w = absurd w.has
four_exact (fin true m e) t w = absurd (true≢false w.has.0)
four_exact (fin false zero e) t w =
    absurd (lt_irrefl 0 (lt_of_lt_of_le (down_pos e) (le_trans w.least (le_of_eq (ap (λ (z : ℕ). z * 16) (zero-mul (up e)))))))
four_exact (fin false (suc m) (pos i)) t w =
    let e : suc m * 2 ^ (i + 2) ≡ suc m * 2 ^ i * 4 = ap (λ (z : ℕ). suc m * z) (pow-add 2 i 2) ∙ sym (mul_assoc (suc m) (2 ^ i) 4) in
    subst (λ (z : ℕ). HasValue (mul binary64 (f64 4) (fin false (suc m) (pos i))) false z 1) e
    (written (mul binary64 (f64 4) (fin false (suc m) (pos i))) (4 * (suc m * 2 ^ i)) 1 (suc m * 2 ^ (i + 2)) 1
    (mul_at (f64 4) (fin false (suc m) (pos i)) 4 1 (suc m * 2 ^ i) 1 (zero-lt-suc 0) (zero-lt-suc 0) (whole 4 (lit≤ tt)) w.has)
    (mul_comm 4 (suc m * 2 ^ i) ∙ sym e) refl
    (dyadic (suc m) (i + 2) 0 (digits_fit false m (pos i) t).0 (two_more i (pow_le_back i 32 (grown m (2 ^ i) (2 ^ 32) w.most))) (lit≤ tt)))
four_exact (fin false (suc m) (negsuc i)) t w =
    let e : suc m * 4 ≡ suc m * 1 * 4 = ap (λ (z : ℕ). z * 4) (sym (mul-one (suc m))) in
    subst (λ (z : ℕ). HasValue (mul binary64 (f64 4) (fin false (suc m) (negsuc i))) false z (2 ^ suc i)) e
    (written (mul binary64 (f64 4) (fin false (suc m) (negsuc i))) (4 * (suc m * 1)) (1 * 2 ^ suc i) (suc m * 4) (2 ^ suc i)
    (mul_at (f64 4) (fin false (suc m) (negsuc i)) 4 1 (suc m * 1) (2 ^ suc i) (zero-lt-suc 0) (pow_pos (suc i)) (whole 4 (lit≤ tt)) w.has)
    (mul_comm 4 (suc m * 1) ∙ sym e) (one-mul (2 ^ suc i))
    (dyadic (suc m) 2 (suc i) (digits_fit false m (negsuc i) t).0 (lit≤ tt) (pow_le_back (suc i) 1074 (digits_fit false m (negsuc i) t).1)))

-- ---- the cast of a fraction
unsigned_at : (x : Float) (a c : ℕ) → 0 < c → HasValue x false a c → to_unsigned 64 x ≡ min (a / c) (2 ^ 64 - 1)
unfolding to_unsigned
unsigned_at x a c C h =
    plain (λ (z : Float). to_unsigned 64 z ≡ min (a / c) (2 ^ 64 - 1)) x a c h (λ m e p. ap (λ (q : ℕ). min q (2 ^ 64 - 1)) (div_same (m * up e) (down e) a c (down_pos e) C p))

small : (q : ℕ) → q < 2 ^ 35 → min q (2 ^ 64 - 1) ≡ q
small q h = omega arith

quadrupled : (a c : ℕ) → 0 < c → a ≤ 2 ^ 32 * c → a * 4 < 2 ^ 35 * c
quadrupled a c C h = omega arith

-- ---- the digits
size_gt : (n j : ℕ) → 2 ^ j ≤ n → j < size n
size_gt n j h = lt_of_not-le (λ (g : size n ≤ j). not-le_of_lt (lt_of_lt_of_le (size-lt n) (pow_mono g)) h)

leading : (z : ℕ) → 1070 < z → 52 + (z - 53) < z
leading z h = omega arith

carried : (k q : ℕ) → 2 ^ 52 ≤ q → k * 2 ^ 52 + q ≡ suc k * 2 ^ 52 + (q - 2 ^ 52)
carried k q h = omega arith

rest : (q : ℕ) → 2 ^ 52 ≤ q → q < 2 ^ 53 → q - 2 ^ 52 < 2 ^ 52
rest q h l = omega arith

refilled : (q : ℕ) → 2 ^ 52 ≤ q → q - 2 ^ 52 + 2 ^ 52 ≡ q
refilled q h = omega arith

exponents : (z : ℕ) → 1070 < z → z ≤ 1107 → (1019 ≤ suc (z - 53)) × (suc (z - 53) ≤ 1055)
exponents z h l = (omega arith, omega arith)

places : (k : ℕ) → suc k ≤ 1055 → k + (1073 - suc k) ≡ 1072
places k h = omega arith

module _ (x : Float) (t : T (fits binary64 x)) (w : Fraction 3 32 x) where
  abbrev a : ℕ
  a = num x

  abbrev c : ℕ
  c = den x

  abbrev C : 0 < c
  C = den_pos x

  -- x in units, how many digits the format drops, and what it keeps
  abbrev n : ℕ
  n = a * 2 ^ 1074 / c

  abbrev k : ℕ
  k = size n - 53

  abbrev q : ℕ
  q = n / 2 ^ k

  n_least : 2 ^ 1070 ≤ n
  n_least = (le-div_iff_mul-le C).1 (le_trans (mul-le-mul_left (2 ^ 1070) w.least) (le_of_eq (mul_left_comm (2 ^ 1070) a 16)))

  n_most : n < 2 ^ 1107
  n_most =
      (div-lt_iff_lt-mul C).1
      (lt_of_le_of_lt (le_trans (mul-le-mul_right (2 ^ 1074) w.most) (le_of_eq (mul_right_comm (2 ^ 32) c (2 ^ 1074)))) (mul-lt-mul_of_pos_right (lit< tt) C))

  many : 1070 < size n
  many = size_gt n 1070 n_least

  exponent : (1019 ≤ suc k) × (suc k ≤ 1055)
  exponent = exponents (size n) many (size-le n 1107 n_most)

  q_least : 2 ^ 52 ≤ q
  q_least = (le-div_iff_mul-le (pow_pos k)).1 (le_trans (le_of_eq (sym (pow-add 2 52 k))) (size_reaches n (52 + k) (leading (size n) many)))

  q_rest : q - 2 ^ 52 < 2 ^ 52
  q_rest = rest q q_least (kept-lt 53 n)

  bits_are : to_bits binary64 x ≡ suc k * 2 ^ 52 + (q - 2 ^ 52)
  bits_are = bits_at x a c C w.has ∙ carried k q q_least

  upper : to_bits binary64 x / 2 ^ 52 ≡ suc k
  upper = ap (λ (b : ℕ). b / 2 ^ 52) bits_are ∙ high (suc k) 52 q_rest

  lower : to_bits binary64 x % 2 ^ 52 + 2 ^ 52 ≡ q
  lower = ap (λ (b : ℕ). b % 2 ^ 52 + 2 ^ 52) bits_are ∙ ap (λ (r : ℕ). r + 2 ^ 52) (low (suc k) 52 q_rest) ∙ refilled q q_least

  shifted : q / 2 ^ (1073 - suc k) ≡ a * 4 / c
  shifted =
      shr-shr n k (1073 - suc k)
      ∙ ap (λ (j : ℕ). n / 2 ^ j) (places k exponent.1)
      ∙ div-div-eq-div-mul (a * 2 ^ 1074) c (2 ^ 1072)
      ∙ div_same (a * 2 ^ 1074) (c * 2 ^ 1072) (a * 4) c (mul-pos C (pow_pos 1072)) C
      (mul_right_comm a (2 ^ 1074) c ∙ sym (mul-mul-mul_comm a 4 c (2 ^ 1072)))

  floored : four_times x ≡ a * 4 / c
  unfolding four_times
  floored = unsigned_at (mul binary64 (f64 4) x) (a * 4) c C (four_exact x t w) ∙ small (a * 4 / c) ((div-lt_iff_lt-mul C).1 (quadrupled a c C w.most))

  shift_is : (to_bits binary64 x % 2 ^ 52 + 2 ^ 52) / 2 ^ (1073 - to_bits binary64 x / 2 ^ 52) ≡ four_times x
  shift_is = ap (λ (b : ℕ). b / 2 ^ (1073 - to_bits binary64 x / 2 ^ 52)) lower ∙ ap (λ (e : ℕ). q / 2 ^ (1073 - e)) upper ∙ shifted ∙ sym floored

-- ---- the laws
module _ (x : Float) (w : AfterUsual x) where
  pub exponent_within : fits binary64 x ≡ true → (1019 ≤ to_bits binary64 x / 2 ^ 52) × (to_bits binary64 x / 2 ^ 52 ≤ 1055)
  exponent_within f =
      let t : T (fits binary64 x) = subst T (sym f) tt in
      subst (λ (e : ℕ). (1019 ≤ e) × (e ≤ 1055)) (sym (upper x t (fraction 3 32 x w))) (exponent x t (fraction 3 32 x w))

  pub from_bits : fits binary64 x ≡ true → (to_bits binary64 x % 2 ^ 52 + 2 ^ 52) / 2 ^ (1073 - to_bits binary64 x / 2 ^ 52) ≡ four_times x
  from_bits f = shift_is x (subst T (sym f) tt) (fraction 3 32 x w)
