-- Up to 18 measurements after a first one, no operation rounds: every intermediate value has at most 53 binary digits. Assumes nothing.
use Rattle.std.proofs.Common.{◌≡◌, ℕ, ◌+◌, ◌*◌, ◌^◌, ◌<◌, ◌≤◌, false, sym, refl, ap, ◌∙◌, subst, le_trans, le_of_lt, mul-le-mul_right, zero-lt-suc, mul_assoc, mul_comm, mul-pos, one-mul, mul-one, mul_left_comm, arith, lit≤, pow_pos, pow_mono, pow-add}
use native.Mathlib.Nat.{mul-mul-mul_comm}
use lib.Ieee.{Float, binary64, round, mul, add, div, of_int}
use lib.Ieee.Exact.{HasValue}
use lib.Ieee.Scale.{round_same}
use Rattle.rto.specs.Rto.{f64, gap, first_var, next_var}
use Rattle.rto.specs.Exact.{Exact, places, none, begun, grown, Exact18}
use Rattle.rto.proofs.Float.{whole, mul_at, add_at, div_at, written, doubled, dyadic}
use Rattle.rto.proofs.Runs.{Bounded, near, from_fresh}

small : (n : ℕ) → n ≤ 60000 → n < 2 ^ 53
small n h = omega arith

twice_small : (n : ℕ) → n ≤ 60000 → 2 * n ≤ 2 ^ 53
twice_small n h = omega arith

-- ---- one measurement
first_exact : (r : ℕ) → r ≤ 60000 → HasValue (first_var r) false r 2
unfolding first_var
first_exact r h =
    let e : div binary64 (f64 r) (f64 2) ≡ round binary64 false (r * 1) 2 = div_at (f64 r) (f64 2) r 1 2 1 (zero-lt-suc 0) (zero-lt-suc 0) (whole r (le_of_lt (small r h))) (whole 2 (lit≤ tt)) (zero-lt-suc 1) in
    subst (λ (a : ℕ). HasValue (div binary64 (f64 r) (f64 2)) false a 2) (mul-one r) (written (div binary64 (f64 r) (f64 2)) (r * 1) 2 (r * 1) 2 e refl refl (dyadic r 0 1 (small r h) (lit≤ tt) (lit≤ tt)))

-- a later one, of an rttvar N / 2 ^ k and a distance d: 6 x v, the sum and the quotient have the digits 3 x N, M and M
module _ (v : Float) (N k d : ℕ) (has : HasValue v false N (2 ^ k)) (bound : N ≤ 60000 * 2 ^ k) (near : d ≤ 60000) (early : k ≤ 35) where
  abbrev P : ℕ
  P = 2 ^ k

  abbrev M : ℕ
  M = 3 * N + d * P

  P-small : P ≤ 2 ^ 35
  P-small = pow_mono early

  triple_small : 3 * N < 2 ^ 53
  triple_small = let p = P-small in omega arith

  M-small : M < 2 ^ 53
  M-small = let p = P-small in let q : d * P ≤ 60000 * P = mul-le-mul_right P near in omega arith

  places_fit : k + 2 ≤ 1074
  places_fit = omega arith

  six_v : HasValue (mul binary64 (f64 6) v) false (3 * N * 2) P
  six_v =
      written (mul binary64 (f64 6) v) (6 * N) (1 * P) (3 * N * 2) P
      (mul_at (f64 6) v 6 1 N P (zero-lt-suc 0) (pow_pos k) (whole 6 (lit≤ tt)) has)
      (omega arith) (one-mul P) (dyadic (3 * N) 1 k triple_small (lit≤ tt) (le_trans early (lit≤ tt)))

  both : 3 * N * 2 * 1 + 2 * d * P ≡ M * 2
  both = let e : 2 * d * P ≡ 2 * (d * P) = mul_assoc 2 d P in omega (arith, e)

  sum_exact : HasValue (add binary64 (mul binary64 (f64 6) v) (mul binary64 (f64 2) (f64 d))) false (M * 2) P
  sum_exact =
      written (add binary64 (mul binary64 (f64 6) v) (mul binary64 (f64 2) (f64 d))) (3 * N * 2 * 1 + 2 * d * P) (P * 1) (M * 2) P
      (add_at (mul binary64 (f64 6) v) (mul binary64 (f64 2) (f64 d)) (3 * N * 2) P (2 * d) 1 (pow_pos k) (zero-lt-suc 0) six_v (doubled d (twice_small d near)))
      both (mul-one P) (dyadic M 1 k M-small (lit≤ tt) (le_trans early (lit≤ tt)))

  eighth : M * 2 * 1 * 2 ^ (k + 2) ≡ M * 1 * (8 * P)
  eighth = ap (λ (z : ℕ). M * 2 * 1 * z) (pow-add 2 k 2) ∙ go M P
    where
      go : (a p : ℕ) → a * 2 * 1 * (p * 4) ≡ a * 1 * (8 * p)
      go a p = ap (λ (z : ℕ). z * (p * 4)) (mul-one (a * 2)) ∙ mul-mul-mul_comm a 2 p 4 ∙ mul_comm (a * p) 8 ∙ sym (mul_left_comm a 8 p) ∙ ap (λ (z : ℕ). z * (8 * p)) (sym (mul-one a))

  abbrev all : Float
  all = div binary64 (add binary64 (mul binary64 (f64 6) v) (mul binary64 (f64 2) (f64 d))) (f64 8)

  next_exact : HasValue all false M (2 ^ (k + 2))
  next_exact =
      subst (λ (a : ℕ). HasValue all false a (2 ^ (k + 2))) (mul-one M)
      (written all (M * 1) (2 ^ (k + 2)) (M * 1) (2 ^ (k + 2))
      (div_at (add binary64 (mul binary64 (f64 6) v) (mul binary64 (f64 2) (f64 d))) (f64 8) (M * 2) P 8 1 (pow_pos k) (zero-lt-suc 0) sum_exact (whole 8 (lit≤ tt)) (zero-lt-suc 7)
      ∙ round_same binary64 false (M * 2 * 1) (8 * P) (M * 1) (2 ^ (k + 2)) (mul-pos (zero-lt-suc 7) (pow_pos k)) (pow_pos (k + 2)) eighth)
      refl refl (dyadic M 0 (k + 2) M-small (lit≤ tt) places_fit))

-- ---- a run
abbrev pub Held : Float → Exact → Type 0
Held v x = x.later ≤ 18 → HasValue v false x.num (2 ^ places x.later)

earlier : (l : ℕ) → l + 1 ≤ 18 → l ≤ 18
earlier l h = omega arith

early_places : (l : ℕ) → l + 1 ≤ 18 → places l ≤ 35
early_places l h = omega arith

more : (l : ℕ) → places l + 2 ≡ places (l + 1)
more l = omega arith

pub kept : (v : Float) (x : Exact) (s r : ℕ) → Bounded x → s ≤ 60000 → r ≤ 60000 → Held v x → Held (next_var v s r) (grown s x r)
unfolding next_var
kept v x s r b k h q l =
    let d = gap s r in
    let i = places x.later in
    subst (λ (z : ℕ). HasValue (next_var v s r) false (3 * x.num + d * 2 ^ i) (2 ^ z)) (more x.later)
    (next_exact v x.num i d (q (earlier x.later l)) b (near s r k h) (early_places x.later l))

pub blank : Held (f64 0) none
unfolding of_int
blank l = (refl, refl)

pub begins : (r : ℕ) → r ≤ 60000 → Held (first_var r) (begun r)
begins r h l = first_exact r h

pub exact_18 : Exact18
exact_18 initial lo hi cs h = (from_fresh Held blank begins kept initial lo hi cs h).holds
