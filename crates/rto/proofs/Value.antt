-- A float by its value: what equals a fraction has the bits that the fraction says, so two floats that fit and equal one fraction are one float; two that are in order
-- have their fractions in order; and a fraction that is rounded already is rounded to itself. Assumes nothing.
use Rattle.std.proofs.Common.{◌≡◌, ℕ, ◌+◌, ◌-◌, ◌*◌, ◌/◌, ◌%◌, ◌^◌, ◌<◌, ◌≤◌, Bool, true, false, ◌&&◌, ◌||◌, T, eqb, ltb, ◌⊎◌, sym, refl, ap, ◌∙◌, subst, inl, inr, le_trans, le_of_eq, le_of_lt, eq-or-lt_of_le, one-mul, zero-add, mul_right_comm, lit<, eqb→eq, ltb→lt, pow_pos, pow-add}
use Prim.Native.Nat.{compare}
use native.Mathlib.Nat.{div-div-eq-div-mul}
use lib.Ieee.{Float, fin, binary64, up, down, size, round, le, fits, to_bits, of_bits}
use lib.Ieee.Bits.{of_bits-to_bits}
use lib.Ieee.Exact.{HasValue, round_exact}
use lib.Ieee.Fits.{down_pos, and_l, kept-lt, nearest-le, round-fits}
use lib.Ieee.Nearest.{div_same}
use lib.Ieee.Order.{drop, kept, transfer}
use lib.Ieee.Scale.{grid, overflow, round_val}
use Rattle.rto.proofs.Float.{plain}

-- ---- the bits

-- of n units of the smallest value: how many of its digits the format drops, above those that it keeps
abbrev pub pattern : ℕ → ℕ
pattern n = (size n - 53) * 2 ^ 52 + n / 2 ^ (size n - 53)

module _ (x : Float) (a c : ℕ) (C : 0 < c) (h : HasValue x false a c) where
  pub bits_at : to_bits binary64 x ≡ pattern (a * 2 ^ 1074 / c)
  unfolding to_bits
  bits_at =
      plain (λ (z : Float). to_bits binary64 z ≡ pattern (a * 2 ^ 1074 / c)) x a c h
      (λ m e p.
      ap (λ (n : ℕ). 0 + (size n - 53) * 2 ^ 52 + n / 2 ^ (size n - 53))
      (div_same (m * up e * 2 ^ 1074) (down e) (a * 2 ^ 1074) c (down_pos e) C
      (mul_right_comm (m * up e) (2 ^ 1074) c ∙ ap (λ (w : ℕ). w * 2 ^ 1074) p ∙ mul_right_comm a (down e) (2 ^ 1074)))
      ∙ ap (λ (w : ℕ). w + a * 2 ^ 1074 / c / 2 ^ (size (a * 2 ^ 1074 / c) - 53)) (zero-add ((size (a * 2 ^ 1074 / c) - 53) * 2 ^ 52)))

pub same_value : (x y : Float) (a c : ℕ) → 0 < c → T (fits binary64 x) → T (fits binary64 y) → HasValue x false a c → HasValue y false a c → x ≡ y
same_value x y a c C p q h k =
    sym (of_bits-to_bits binary64 x p) ∙ ap (λ (n : ℕ). of_bits binary64 n) (bits_at x a c C h ∙ sym (bits_at y a c C k)) ∙ of_bits-to_bits binary64 y q

-- ---- the order
or_split : (a b : Bool) → T (a || b) → T a ⊎ T b
or_split true b t = inl tt
or_split false b t = inr t

pub lt_or_eq : (a b : ℕ) → T (ltb a b || (eqb a b && true)) → a ≤ b
lt_or_eq a b t = elim (or_split (ltb a b) (eqb a b && true) t) [ inl u ↦ le_of_lt (ltb→lt a b u) | inr u ↦ le_of_eq (eqb→eq a b (and_l (eqb a b) true u)) ]

pub in_order_lem : (x y : Float) (a c b d : ℕ) → HasValue x false a c → HasValue y false b d → T (le x y) → a * d ≤ b * c
unfolding le
in_order_lem x y a c b d h k =
    plain (λ (z : Float). T (le z y) → a * d ≤ b * c) x a c h
    (λ m e p.
    plain (λ (z : Float). T (le (fin false m e) z) → a * d ≤ b * c) y b d k
    (λ n g q l. transfer a b c d (m * up e) (n * up g) (down e) (down g) (down_pos e) (down_pos g) (sym p) (sym q) (lt_or_eq (m * up e * down g) (n * up g * down e) l)))

-- ---- rounded twice
kept_most : (n c : ℕ) → kept 53 n c ≤ 2 ^ 53
kept_most n c =
    let k = drop 53 n c in
    let u = c * 2 ^ k in
    le_trans (nearest-le (n / u) (compare (n % u * 2) u)) (subst (λ (x : ℕ). x < 2 ^ 53) (div-div-eq-div-mul n c (2 ^ k)) (kept-lt 53 (n / c)))

module _ (a c : ℕ) (h : grid binary64 a c < overflow binary64) where
  abbrev q : ℕ
  q = kept 53 (a * 2 ^ 1074) c

  abbrev j : ℕ
  j = drop 53 (a * 2 ^ 1074) c

  exact : HasValue (round binary64 false (grid binary64 a c) (2 ^ 1074)) false (grid binary64 a c) (2 ^ 1074)
  exact = elim (eq-or-lt_of_le (kept_most (a * 2 ^ 1074) c)) [
    | inl e ↦
        let w : grid binary64 a c ≡ 1 * 2 ^ (53 + j) = ap (λ (z : ℕ). z * 2 ^ j) e ∙ sym (pow-add 2 53 j) ∙ sym (one-mul (2 ^ (53 + j))) in
        round_exact binary64 false (grid binary64 a c) (2 ^ 1074) 1 (53 + j) (pow_pos 1074) (lit< tt) (subst (λ (z : ℕ). z < overflow binary64) w h) (ap (λ (z : ℕ). z * 2 ^ 1074) w)
    | inr l ↦ round_exact binary64 false (grid binary64 a c) (2 ^ 1074) q j (pow_pos 1074) l h refl
  ]

  pub again : round binary64 false (grid binary64 a c) (2 ^ 1074) ≡ round binary64 false a c
  again =
      same_value (round binary64 false (grid binary64 a c) (2 ^ 1074)) (round binary64 false a c) (grid binary64 a c) (2 ^ 1074) (pow_pos 1074)
      (round-fits binary64 false (grid binary64 a c) (2 ^ 1074)) (round-fits binary64 false a c) exact (round_val binary64 a c h)
