-- (6 v + 2 d) / 8, each operation rounded, is the float 3/4 v + 1/4 d for a v from 1/8 to 2 ^ 32: a multiplication by 8 goes through rounding in the normal range.
-- 6 v is 8 times 3/4 v and 2 d is 8 times 1/4 d, rounded or not; so are their sums; and the quotient by 8 of what is rounded already rounds nothing away. Assumes nothing.
use Rattle.std.proofs.Common.{◌≡◌, ℕ, ◌+◌, ◌*◌, ◌/◌, ◌^◌, ◌<◌, ◌≤◌, false, T, negsuc, sym, refl, ap, ◌∙◌, subst, le_trans, le_of_eq, lt_of_le_of_lt, mul-le-mul_right, zero-lt-suc, mul_assoc, mul_comm, mul-le-mul_left, mul-pos, one-mul, mul-one, mul_right_comm, arith, lit≤, pow_pos}
use native.Mathlib.Nat.{mul-mul-mul_comm}
use lib.Ieee.{Float, nan, inf, fin, binary64, size, round, mul, add, div, le}
use lib.Ieee.Exact.{HasValue}
use lib.Ieee.Order.{round_mono}
use lib.Ieee.Positive.{num, den, den_pos}
use lib.Ieee.Scale.{grid, overflow, finite, round_same, round_val, round_under, grid_scale, normal_of_fraction}
use Rattle.limits.specs.Limits.{setting_max}
use Rattle.rto.specs.Rto.{f64, gap, next_var}
use Rattle.rto.specs.Range.{AtMost}
use Rattle.rto.specs.Usual.{Usual, AfterUsual}
use Rattle.rto.proofs.Float.{whole, mul_at, add_at, div_at, written, doubled, dyadic}
use Rattle.rto.proofs.AtMost.{number, product, sum, quotient}
use Rattle.rto.proofs.Value.{in_order_lem, again}
use Rattle.rto.proofs.Within.{Fraction, fraction, within}

-- 3/4 and 1/4
abbrev pub three_quarters : Float
three_quarters = fin false 3 (negsuc 1)

abbrev pub quarter : Float
quarter = fin false 1 (negsuc 1)

is_finite : (x : Float) (b : ℕ) → AtMost x b → T (finite x)
is_finite nan b h = h
is_finite (inf s) b h = h
is_finite (fin s m e) b h = tt

-- ---- 8 times a fraction in the normal range, rounded
module _ (n d : ℕ) (D : 0 < d) (normal : 53 ≤ size (n * 2 ^ 1074 / d)) (x : Float) (is : x ≡ round binary64 false (n * 2 ^ 3) d) (b : ℕ) (most : AtMost x b) where
  eightfold : grid binary64 (n * 2 ^ 3) d ≡ grid binary64 n d * 2 ^ 3
  eightfold = grid_scale binary64 n d 3 D normal

  under : grid binary64 (n * 2 ^ 3) d < overflow binary64
  under = round_under binary64 (n * 2 ^ 3) d (subst (λ (z : Float). T (finite z)) is (is_finite x b most))

  eight_times : HasValue x false (grid binary64 n d * 2 ^ 3) (2 ^ 1074)
  eight_times =
      subst (λ (z : Float). HasValue z false (grid binary64 n d * 2 ^ 3) (2 ^ 1074)) (sym is)
      (subst (λ (z : ℕ). HasValue (round binary64 false (n * 2 ^ 3) d) false z (2 ^ 1074)) eightfold (round_val binary64 (n * 2 ^ 3) d under))

  once_under : grid binary64 n d < overflow binary64
  once_under = lt_of_le_of_lt (small (grid binary64 n d)) (subst (λ (z : ℕ). z < overflow binary64) eightfold under)
    where
      small : (w : ℕ) → w ≤ w * 2 ^ 3
      small w = omega arith

-- ---- the fractions
six_eighths : (a c : ℕ) → 6 * a * (4 * c) ≡ 3 * a * 2 ^ 3 * (1 * c)
six_eighths a c = mul-mul-mul_comm 6 a 4 c ∙ sym (ap (λ (z : ℕ). z * (1 * c)) (mul_right_comm 3 a 8) ∙ mul-mul-mul_comm 24 a 1 c)

sums : (g d l : ℕ) → (g * 2 ^ 3 * 1 + 2 * d * l) * (l * 4) ≡ (g * 4 + d * l) * 2 ^ 3 * (l * 1)
sums g d l =
    let e : 2 * d * l ≡ 2 * (d * l) = mul_assoc 2 d l in
    let s : (g * 2 ^ 3 * 1 + 2 * d * l) * 4 ≡ (g * 4 + d * l) * 2 ^ 3 = omega arith in
    ap (λ (z : ℕ). (g * 2 ^ 3 * 1 + 2 * d * l) * z) (mul_comm l 4) ∙ sym (mul_assoc (g * 2 ^ 3 * 1 + 2 * d * l) 4 l) ∙ ap (λ (z : ℕ). z * l) s
    ∙ ap (λ (z : ℕ). (g * 4 + d * l) * 2 ^ 3 * z) (sym (mul-one l))

eighth : (h l : ℕ) → h * 2 ^ 3 * 1 * l ≡ h * (8 * l)
eighth h l = ap (λ (z : ℕ). z * l) (mul-one (h * 8)) ∙ mul_assoc h 8 l

-- ---- what is in the normal range
sixteenth_least : (a c : ℕ) → c ≤ a * 2 ^ 3 → 1 * (4 * c) ≤ 3 * a * 16
sixteenth_least a c h = omega arith

normal_least : (a c : ℕ) → c ≤ a * 2 ^ 3 → 2 ^ 52 * (4 * c) ≤ 3 * a * 2 ^ 57
normal_least a c h = omega arith

sum_least : (g d l : ℕ) → 2 ^ 56 ≤ l → 1 * l ≤ g * 16 → 2 ^ 52 * 4 ≤ g * 4 + d * l
sum_least g d l h k = omega arith

sum_sixteenth : (g d l : ℕ) → 1 * l ≤ g * 16 → 1 * (l * 4) ≤ (g * 4 + d * l) * 16
sum_sixteenth g d l k = omega arith

twice : (d : ℕ) → d ≤ 2 ^ 32 → 2 * d ≤ 2 ^ 53
twice d h = omega arith

below : (d : ℕ) → d ≤ 2 ^ 32 → d < 2 ^ 53
below d h = omega arith

module _ (v : Float) (d : ℕ) (near : d ≤ 2 ^ 32) (w : Fraction 2 32 v) where
  abbrev a : ℕ
  a = num v

  abbrev c : ℕ
  c = den v

  abbrev C : 0 < 4 * c
  C = mul-pos (zero-lt-suc 3) (den_pos v)

  -- 3/4 v and the sum, in units, and the sum's fraction
  abbrev g : ℕ
  g = grid binary64 (3 * a) (4 * c)

  abbrev n : ℕ
  n = g * 4 + d * 2 ^ 1074

  abbrev u : ℕ
  u = 2 ^ 1074 * 4

  -- ---- 6 v and 3/4 v
  six_is : mul binary64 (f64 6) v ≡ round binary64 false (3 * a * 2 ^ 3) (4 * c)
  six_is =
      mul_at (f64 6) v 6 1 a c (zero-lt-suc 0) (den_pos v) (whole 6 (lit≤ tt)) w.has
      ∙ round_same binary64 false (6 * a) (1 * c) (3 * a * 2 ^ 3) (4 * c) (mul-pos (zero-lt-suc 0) (den_pos v)) C (six_eighths a c)

  six_most : AtMost (mul binary64 (f64 6) v) (6 * 2 ^ 32)
  six_most = product (f64 6) v 6 (2 ^ 32) (lit≤ tt) (number 6 6 (lit≤ tt) (lit≤ tt)) w.at_most

  three_normal : 53 ≤ size (3 * a * 2 ^ 1074 / (4 * c))
  three_normal = normal_of_fraction binary64 (3 * a) (4 * c) C (le_trans (normal_least a c w.least) (mul-le-mul_left (3 * a) (lit≤ tt)))

  six_has : HasValue (mul binary64 (f64 6) v) false (g * 2 ^ 3) (2 ^ 1074)
  six_has = eight_times (3 * a) (4 * c) C three_normal (mul binary64 (f64 6) v) six_is (6 * 2 ^ 32) six_most

  three_val : HasValue (round binary64 false (3 * a) (4 * c)) false g (2 ^ 1074)
  three_val = round_val binary64 (3 * a) (4 * c) (once_under (3 * a) (4 * c) C three_normal (mul binary64 (f64 6) v) six_is (6 * 2 ^ 32) six_most)

  three_has : HasValue (mul binary64 three_quarters v) false g (2 ^ 1074)
  three_has = subst (λ (z : Float). HasValue z false g (2 ^ 1074)) (sym (mul_at three_quarters v 3 4 a c (zero-lt-suc 3) (den_pos v) (refl, refl) w.has)) three_val

  three_least : 1 * 2 ^ 1074 ≤ g * 16
  three_least =
      in_order_lem (round binary64 false 1 16) (round binary64 false (3 * a) (4 * c)) 1 16 g (2 ^ 1074) (dyadic 1 0 4 (lit≤ tt) (lit≤ tt) (lit≤ tt)) three_val
      (round_mono binary64 1 16 (3 * a) (4 * c) (zero-lt-suc 15) C (sixteenth_least a c w.least))

  -- ---- the sums
  sum_is : add binary64 (mul binary64 (f64 6) v) (mul binary64 (f64 2) (f64 d)) ≡ round binary64 false (n * 2 ^ 3) u
  sum_is =
      add_at (mul binary64 (f64 6) v) (mul binary64 (f64 2) (f64 d)) (g * 2 ^ 3) (2 ^ 1074) (2 * d) 1 (pow_pos 1074) (zero-lt-suc 0) six_has (doubled d (twice d near))
      ∙ round_same binary64 false (g * 2 ^ 3 * 1 + 2 * d * 2 ^ 1074) (2 ^ 1074 * 1) (n * 2 ^ 3) u (pow_pos 1074) (pow_pos 1076) (sums g d (2 ^ 1074))

  sum_most : AtMost (add binary64 (mul binary64 (f64 6) v) (mul binary64 (f64 2) (f64 d))) (2 ^ 35)
  sum_most =
      sum (mul binary64 (f64 6) v) (mul binary64 (f64 2) (f64 d)) (6 * 2 ^ 32) (2 ^ 33) (lit≤ tt) six_most
      (product (f64 2) (f64 d) 2 (2 ^ 32) (lit≤ tt) (number 2 2 (lit≤ tt) (lit≤ tt)) (number d (2 ^ 32) near (lit≤ tt)))

  sum_normal : 53 ≤ size (n * 2 ^ 1074 / u)
  sum_normal =
      normal_of_fraction binary64 n u (pow_pos 1076)
      (le_trans (le_of_eq (ap (λ (z : ℕ). 2 ^ 52 * z) (mul_comm (2 ^ 1074) 4) ∙ sym (mul_assoc (2 ^ 52) 4 (2 ^ 1074)))) (mul-le-mul_right (2 ^ 1074) (sum_least g d (2 ^ 1074) (lit≤ tt) three_least)))

  sum_has : HasValue (add binary64 (mul binary64 (f64 6) v) (mul binary64 (f64 2) (f64 d))) false (grid binary64 n u * 2 ^ 3) (2 ^ 1074)
  sum_has = eight_times n u (pow_pos 1076) sum_normal (add binary64 (mul binary64 (f64 6) v) (mul binary64 (f64 2) (f64 d))) sum_is (2 ^ 35) sum_most

  -- ---- both ways
  eighth_is : div binary64 (add binary64 (mul binary64 (f64 6) v) (mul binary64 (f64 2) (f64 d))) (f64 8) ≡ round binary64 false n u
  eighth_is =
      div_at (add binary64 (mul binary64 (f64 6) v) (mul binary64 (f64 2) (f64 d))) (f64 8) (grid binary64 n u * 2 ^ 3) (2 ^ 1074) 8 1 (pow_pos 1074) (zero-lt-suc 0) sum_has (whole 8 (lit≤ tt)) (zero-lt-suc 7)
      ∙ round_same binary64 false (grid binary64 n u * 2 ^ 3 * 1) (8 * 2 ^ 1074) (grid binary64 n u) (2 ^ 1074) (pow_pos 1077) (pow_pos 1074) (eighth (grid binary64 n u) (2 ^ 1074))
      ∙ again n u (once_under n u (pow_pos 1076) sum_normal (add binary64 (mul binary64 (f64 6) v) (mul binary64 (f64 2) (f64 d))) sum_is (2 ^ 35) sum_most)

  quarter_has : HasValue (mul binary64 quarter (f64 d)) false d 4
  quarter_has =
      subst (λ (z : ℕ). HasValue (mul binary64 quarter (f64 d)) false z 4) (mul-one d)
      (written (mul binary64 quarter (f64 d)) (1 * d) 4 (d * 2 ^ 0) (2 ^ 2)
      (mul_at quarter (f64 d) 1 4 d 1 (zero-lt-suc 3) (zero-lt-suc 0) (refl, refl) (whole d (le_trans near (lit≤ tt))))
      (one-mul d ∙ sym (mul-one d)) refl (dyadic d 0 2 (below d near) (lit≤ tt) (lit≤ tt)))

  quarters_are : add binary64 (mul binary64 three_quarters v) (mul binary64 quarter (f64 d)) ≡ round binary64 false n u
  quarters_are = add_at (mul binary64 three_quarters v) (mul binary64 quarter (f64 d)) g (2 ^ 1074) d 4 (pow_pos 1074) (zero-lt-suc 3) three_has quarter_has

  -- ---- 1/16 and 2 ^ 32 are around the result
  around : AfterUsual (div binary64 (add binary64 (mul binary64 (f64 6) v) (mul binary64 (f64 2) (f64 d))) (f64 8))
  unfolding round
  around =
      within 3 32 (div binary64 (add binary64 (mul binary64 (f64 6) v) (mul binary64 (f64 2) (f64 d))) (f64 8))
      (subst (λ (z : Float). T (le (round binary64 false 1 16) z)) (sym eighth_is) (round_mono binary64 1 16 n u (zero-lt-suc 15) (pow_pos 1076) (sum_sixteenth g d (2 ^ 1074) three_least)))
      (quotient (add binary64 (mul binary64 (f64 6) v) (mul binary64 (f64 2) (f64 d))) (2 ^ 32) 8 (zero-lt-suc 7) (lit≤ tt) (lit≤ tt) sum_most)

  same : div binary64 (add binary64 (mul binary64 (f64 6) v) (mul binary64 (f64 2) (f64 d))) (f64 8) ≡ add binary64 (mul binary64 three_quarters v) (mul binary64 quarter (f64 d))
  same = eighth_is ∙ sym quarters_are

-- ---- the laws
gap_near : (s r : ℕ) → s ≤ setting_max → r ≤ setting_max → gap s r ≤ 2 ^ 32
gap_near s r h k = omega arith

module _ (v : Float) (s r : ℕ) (w : Usual v) (h : s ≤ setting_max) (k : r ≤ setting_max) where
  pub by_quarters : next_var v s r ≡ add binary64 (mul binary64 three_quarters v) (mul binary64 quarter (f64 (gap s r)))
  unfolding next_var
  by_quarters = same v (gap s r) (gap_near s r h k) (fraction 2 32 v w)

  pub after_usual : AfterUsual (next_var v s r)
  unfolding next_var
  after_usual = around v (gap s r) (gap_near s r h k) (fraction 2 32 v w)
