-- A product, a sum and a quotient of values that are not negative, by any fractions that the operands equal: each is that fraction, rounded once.
-- And where the fraction is q * 2 ^ i / 2 ^ k with a q below 2 ^ 53, nothing is rounded away. Assumes nothing.
use Rattle.std.proofs.Common.{◌≡◌, ℕ, zero, suc, ◌+◌, ◌-◌, ◌*◌, ◌^◌, ◌<◌, ◌≤◌, Bool, true, false, cond, eqb, ℤ, sym, refl, ap, ◌∙◌, subst, true≢false, lt_of_lt_of_le, lt_irrefl, zero-lt-suc, mul_assoc, mul_comm, add-mul, mul-pos, zero-mul, mul_left_comm, arith, lit≤, pow_pos, pow_mono, pow-add, shl_lt, ne_eqb}
use native.Mathlib.Nat.{mul-mul-mul_comm}
use lib.Ieee.{Float, nan, inf, fin, binary64, up, down, round, mul, add, div, of_int}
use lib.Ieee.Back.{round_whole}
use lib.Ieee.Fits.{up_pos, down_pos}
use lib.Ieee.Exact.{HasValue, round_exact}
use lib.Ieee.Scale.{round_same}
use Rattle.rto.specs.Rto.{f64}

-- ---- a whole number as a float
pub whole : (n : ℕ) → n ≤ 2 ^ 53 → HasValue (f64 n) false n 1
unfolding of_int
whole n h = round_whole binary64 false n h

-- ---- values that are not negative
-- what holds of a finite float with the sign off holds of every x that is a / c
pub plain : (P : Float → Type 0) (x : Float) (a c : ℕ) → HasValue x false a c → ((m : ℕ) (e : ℤ) → m * up e * c ≡ a * down e → P (fin false m e)) → P x
plain P nan a c h f = absurd h
plain P (inf s) a c h f = absurd h
plain P (fin true m e) a c h f = absurd (true≢false h.0)
plain P (fin false m e) a c h f = f m e h.1

-- x / de is a / c
carried : (x de a c y z : ℕ) → x * c ≡ a * de → x * y * (c * z) ≡ a * z * (de * y)
carried x de a c y z p = mul-mul-mul_comm x y c z ∙ ap (λ (w : ℕ). w * (y * z)) p ∙ simp (mul_assoc, mul_comm, mul_left_comm)

-- and y / dg is b / d: so are their product, their sum and their quotient
module _ (x y de dg a c b d : ℕ) (p : x * c ≡ a * de) (q : y * d ≡ b * dg) where
  mul_frac : x * y * (c * d) ≡ a * b * (de * dg)
  mul_frac = mul-mul-mul_comm x y c d ∙ ap (λ (z : ℕ). z * (y * d)) p ∙ ap (λ (z : ℕ). a * de * z) q ∙ mul-mul-mul_comm a de b dg

  add_frac : (x * dg + y * de) * (c * d) ≡ (a * d + b * c) * (de * dg)
  add_frac =
      let l : x * dg * (c * d) ≡ a * d * (de * dg) = carried x de a c dg d p in
      let r : y * de * (c * d) ≡ b * c * (de * dg) = ap (λ (w : ℕ). y * de * w) (mul_comm c d) ∙ carried y dg b d de c q ∙ ap (λ (w : ℕ). b * c * w) (mul_comm dg de) in
      add-mul (x * dg) (y * de) (c * d) ∙ ap (λ (w : ℕ). w + y * de * (c * d)) l ∙ ap (λ (w : ℕ). a * d * (de * dg) + w) r ∙ sym (add-mul (a * d) (b * c) (de * dg))

  div_frac : x * dg * (b * c) ≡ a * d * (y * de)
  div_frac =
      let l : x * dg * (b * c) ≡ x * c * (b * dg) = simp (mul_assoc, mul_comm, mul_left_comm) in
      let r : a * de * (y * d) ≡ a * d * (y * de) = simp (mul_assoc, mul_comm, mul_left_comm) in
      l ∙ ap (λ (w : ℕ). w * (b * dg)) p ∙ ap (λ (w : ℕ). a * de * w) (sym q) ∙ r

-- n * u / g is b / d with a b above 0, so n is not 0
digits_pos : (n u d b g : ℕ) → n * u * d ≡ b * g → 0 < b → 0 < g → 0 < n
digits_pos zero u d b g h B G = absurd (lt_irrefl 0 (subst (λ (w : ℕ). 0 < w) (sym h ∙ ap (λ (w : ℕ). w * d) (zero-mul u) ∙ zero-mul d) (mul-pos B G)))
digits_pos (suc n) u d b g h B G = zero-lt-suc n

pub not_zero : (n : ℕ) → 0 < n → n ≡ 0 → ⊥
not_zero n h e = omega arith

-- ---- the operations
module _ (x y : Float) (a c b d : ℕ) (C : 0 < c) (D : 0 < d) (h : HasValue x false a c) (k : HasValue y false b d) where
  both : (P : Float → Float → Type 0) → ((m : ℕ) (e : ℤ) (n : ℕ) (g : ℤ) → m * up e * c ≡ a * down e → n * up g * d ≡ b * down g → P (fin false m e) (fin false n g)) → P x y
  both P f = plain (λ (z : Float). P z y) x a c h (λ m e p. plain (P (fin false m e)) y b d k (λ n g q. f m e n g p q))

  pub mul_at : mul binary64 x y ≡ round binary64 false (a * b) (c * d)
  unfolding mul
  mul_at =
      both (λ (u v : Float). mul binary64 u v ≡ round binary64 false (a * b) (c * d))
      (λ m e n g p q.
      round_same binary64 false (m * up e * (n * up g)) (down e * down g) (a * b) (c * d) (mul-pos (down_pos e) (down_pos g)) (mul-pos C D)
      (mul_frac (m * up e) (n * up g) (down e) (down g) a c b d p q))

  pub add_at : add binary64 x y ≡ round binary64 false (a * d + b * c) (c * d)
  unfolding add
  add_at =
      both (λ (u v : Float). add binary64 u v ≡ round binary64 false (a * d + b * c) (c * d))
      (λ m e n g p q.
      round_same binary64 false (m * up e * down g + n * up g * down e) (down e * down g) (a * d + b * c) (c * d) (mul-pos (down_pos e) (down_pos g)) (mul-pos C D)
      (add_frac (m * up e) (n * up g) (down e) (down g) a c b d p q))

  pub div_at : 0 < b → div binary64 x y ≡ round binary64 false (a * d) (b * c)
  unfolding div
  div_at B =
      both (λ (u v : Float). div binary64 u v ≡ round binary64 false (a * d) (b * c))
      (λ m e n g p q.
      let N = digits_pos n (up g) d b (down g) q B (down_pos g) in
      ap (λ (t : Bool). cond t (cond (eqb m 0) nan (inf false)) (round binary64 false (m * up e * down g) (n * up g * down e))) (ne_eqb n 0 (not_zero n N))
      ∙ round_same binary64 false (m * up e * down g) (n * up g * down e) (a * d) (b * c) (mul-pos (mul-pos N (up_pos g)) (down_pos e)) (mul-pos B C)
      (div_frac (m * up e) (n * up g) (down e) (down g) a c b d p q))

-- ---- where nothing is rounded away
-- a value that is a rounded fraction, at the same fraction written in another way
pub written : (x : Float) (a c a' c' : ℕ) → x ≡ round binary64 false a c → a ≡ a' → c ≡ c' → HasValue (round binary64 false a' c') false a' c' → HasValue x false a' c'
written x a c a' c' e p q h =
    subst (λ (z : Float). HasValue z false a' c') (sym (e ∙ ap (λ (z : ℕ). round binary64 false z c) p ∙ ap (λ (z : ℕ). round binary64 false a' z) q)) h

half : (d : ℕ) → 2 * d ≤ 2 ^ 53 → d ≤ 2 ^ 53
half d h = omega arith

pub doubled : (d : ℕ) → 2 * d ≤ 2 ^ 53 → HasValue (mul binary64 (f64 2) (f64 d)) false (2 * d) 1
doubled d h =
    written (mul binary64 (f64 2) (f64 d)) (2 * d) 1 (2 * d) 1
    (mul_at (f64 2) (f64 d) 2 1 d 1 (zero-lt-suc 0) (zero-lt-suc 0) (whole 2 (lit≤ tt)) (whole d (half d h)))
    refl refl (round_whole binary64 false (2 * d) h)

place : (i k : ℕ) → k ≤ 1074 → i + 1074 - k + k ≡ i + 1074
place i k h = omega arith

room : (i k : ℕ) → i ≤ 900 → 53 + (i + 1074 - k) ≤ 2098
room i k h = omega arith

pub dyadic : (q i k : ℕ) → q < 2 ^ 53 → i ≤ 900 → k ≤ 1074 → HasValue (round binary64 false (q * 2 ^ i) (2 ^ k)) false (q * 2 ^ i) (2 ^ k)
dyadic q i k Q I K =
    let j = i + 1074 - k in
    round_exact binary64 false (q * 2 ^ i) (2 ^ k) q j (pow_pos k) Q (lt_of_lt_of_le (shl_lt 53 j Q) (pow_mono (room i k I)))
    (mul_assoc q (2 ^ i) (2 ^ 1074) ∙ ap (λ (z : ℕ). q * z) (sym (pow-add 2 i 1074) ∙ ap (λ (z : ℕ). 2 ^ z) (sym (place i k K)) ∙ pow-add 2 j k) ∙ sym (mul_assoc q (2 ^ j) (2 ^ k)))
