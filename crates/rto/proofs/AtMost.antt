-- Rounding keeps the order, and a whole number up to 2 ^ 53 is a float: so a sum, a product or a quotient stays below such a bound where its exact value does. Assumes nothing.
use Rattle.std.proofs.Common.{◌≡◌, ℕ, ◌+◌, ◌-◌, ◌*◌, ◌/◌, ◌^◌, ◌<◌, ◌≤◌, min, Bool, true, false, cond, T, ltb, sym, refl, ap, ◌∙◌, subst, true≢false, le_trans, le_of_eq, mul-le-mul_right, zero-lt-suc, mul_assoc, mul_comm, add-mul, mul-le-mul, mul-pos, mul-one, mul_right_comm, le_of_mul-le-mul_right, arith}
use native.Mathlib.Nat.{mul-mul-mul_comm, div-le_of_le-mul}
use lib.Ieee.{Float, nan, inf, fin, up, down, binary64, odd, units, round, mul, add, div, le, to_unsigned}
use lib.Ieee.Back.{round_whole}
use lib.Ieee.Exact.{HasValue, odd_sign}
use lib.Ieee.Fits.{down_pos, round_is}
use lib.Ieee.Order.{drop, kept, round_mono}
use Rattle.rto.specs.Rto.{f64}
use Rattle.rto.specs.Range.{AtMost}
use Rattle.rto.proofs.Float.{whole, plain, mul_at, add_at, div_at}
use Rattle.rto.proofs.Value.{lt_or_eq}

-- ---- a rounded fraction
-- x is not negative, and no larger than y, which is b
below : (x y : Float) (a c b : ℕ) → HasValue x false a c → HasValue y false b 1 → T (le x y) → AtMost x b
unfolding le
below x y a c b h k =
    plain (λ (z : Float). T (le z y) → AtMost z b) x a c h
    (λ m e p.
    plain (λ (z : Float). T (le (fin false m e) z) → AtMost (fin false m e) b) y b 1 k
    (λ n g q l. (
      refl,
      le_of_mul-le-mul_right
          (le_trans (lt_or_eq (m * up e * down g) (n * up g * down e) l)
          (le_of_eq (ap (λ (z : ℕ). z * down e) (sym (mul-one (n * up g)) ∙ q) ∙ mul_right_comm b (down g) (down e))))
          (down_pos g),
    )))

not_inf : (y : Float) (b : ℕ) → HasValue y false b 1 → T (le (inf false) y) → ⊥
unfolding le
not_inf y b k = plain (λ (z : Float). T (le (inf false) z) → ⊥) y b 1 k (λ n g q l. l)

units_below : (q k : ℕ) (y : Float) (b : ℕ) → HasValue y false b 1 → T (le (units binary64 false q k) y) → AtMost (units binary64 false q k) b
unfolding units
units_below q k y b h = go (ltb (q * 2 ^ k) (2 ^ 2098))
  where
    go : (c : Bool) → T (le (cond c (odd 54 false q k 1074) (inf false)) y) → AtMost (cond c (odd 54 false q k 1074) (inf false)) b
    go true l = below (odd 54 false q k 1074) y (q * 2 ^ k) (2 ^ 1074) b (odd_sign 54 false q k 1074) h l
    go false l = absurd (not_inf y b h l)

round_below : (a c b : ℕ) → 0 < c → b ≤ 2 ^ 53 → a ≤ b * c → AtMost (round binary64 false a c) b
round_below a c b C B h =
    let n = a * 2 ^ 1074 in
    let y = round binary64 false b 1 in
    let l : T (le (round binary64 false a c) y) = round_mono binary64 a c b 1 C (zero-lt-suc 0) (le_trans (le_of_eq (mul-one a)) h) in
    subst (λ (z : Float). AtMost z b) (sym (round_is binary64 false a c))
    (units_below (kept 53 n c) (drop 53 n c) y b (round_whole binary64 false b B) (subst (λ (z : Float). T (le z y)) (round_is binary64 false a c) l))

-- ---- the operations
record Own (x : Float) (b : ℕ) : Type 0 where
  num : ℕ
  den : ℕ
  den_pos : 0 < den
  has : HasValue x false num den
  most : num ≤ b * den

own : (x : Float) (b : ℕ) → AtMost x b → Own x b
own nan b h = absurd h
own (inf s) b h = absurd h
own (fin s m e) b h = record { num = m * up e; den = down e; den_pos = down_pos e; has = (h.0, refl); most = h.1 }

of_value : (x : Float) (a b : ℕ) → HasValue x false a 1 → a ≤ b → AtMost x b
of_value nan a b h k = h
of_value (inf s) a b h k = h
of_value (fin s m e) a b h k = (h.0, le_trans (le_of_eq (sym (mul-one (m * up e)) ∙ h.1)) (mul-le-mul_right (down e) k))

pub number : (n b : ℕ) → n ≤ b → b ≤ 2 ^ 53 → AtMost (f64 n) b
number n b h k = of_value (f64 n) n b (whole n (le_trans h k)) h

module _ (x y : Float) (a b : ℕ) where
  pub product : a * b ≤ 2 ^ 53 → AtMost x a → AtMost y b → AtMost (mul binary64 x y) (a * b)
  product B h k =
      let p = own x a h in
      let q = own y b k in
      subst (λ (z : Float). AtMost z (a * b)) (sym (mul_at x y p.num p.den q.num q.den p.den_pos q.den_pos p.has q.has))
      (round_below (p.num * q.num) (p.den * q.den) (a * b) (mul-pos p.den_pos q.den_pos) B
      (le_trans (mul-le-mul p.most q.most) (le_of_eq (mul-mul-mul_comm a p.den b q.den))))

  pub sum : a + b ≤ 2 ^ 53 → AtMost x a → AtMost y b → AtMost (add binary64 x y) (a + b)
  sum B h k =
      let p = own x a h in
      let q = own y b k in
      subst (λ (z : Float). AtMost z (a + b)) (sym (add_at x y p.num p.den q.num q.den p.den_pos q.den_pos p.has q.has))
      (round_below (p.num * q.den + q.num * p.den) (p.den * q.den) (a + b) (mul-pos p.den_pos q.den_pos) B (joined p.num p.den q.num q.den p.most q.most))
    where
      joined : (m c n d : ℕ) → m ≤ a * c → n ≤ b * d → m * d + n * c ≤ (a + b) * (c * d)
      joined m c n d h k =
          let l : m * d ≤ a * (c * d) = le_trans (mul-le-mul_right d h) (le_of_eq (mul_assoc a c d)) in
          let r : n * c ≤ b * (c * d) = le_trans (mul-le-mul_right c k) (le_of_eq (mul_assoc b d c ∙ ap (λ (z : ℕ). b * z) (mul_comm d c))) in
          let e : (a + b) * (c * d) ≡ a * (c * d) + b * (c * d) = add-mul a b (c * d) in
          omega arith

pub quotient : (x : Float) (b d : ℕ) → 0 < d → d ≤ 2 ^ 53 → b ≤ 2 ^ 53 → AtMost x (b * d) → AtMost (div binary64 x (f64 d)) b
quotient x b d D E B h =
    let p = own x (b * d) h in
    subst (λ (z : Float). AtMost z b) (sym (div_at x (f64 d) p.num p.den d 1 p.den_pos (zero-lt-suc 0) p.has (whole d E) D))
    (round_below (p.num * 1) (d * p.den) b (mul-pos D p.den_pos) B (le_trans (le_of_eq (mul-one p.num)) (le_trans p.most (le_of_eq (mul_assoc b d p.den)))))

pub cast : (x : Float) (b : ℕ) → AtMost x b → to_unsigned 64 x ≤ b
unfolding to_unsigned
cast nan b h = absurd h
cast (inf s) b h = absurd h
cast (fin true m e) b h = absurd (true≢false h.0)
cast (fin false m e) b h = least (m * up e / down e) b (2 ^ 64 - 1) (div-le_of_le-mul (down e) (le_trans h.1 (le_of_eq (mul_comm b (down e)))))
  where
    least : (q b k : ℕ) → q ≤ b → min q k ≤ b
    least q b k h = omega arith
