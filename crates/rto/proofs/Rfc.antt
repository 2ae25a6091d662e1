-- The estimator's whole numbers are the RFC's fractions over a common denominator; and while nothing is rounded, 4 x rttvar is exact too, so its floor is the RFC's. Assumes nothing.
use Rattle.std.proofs.Common.{◌≡◌, ℕ, ◌+◌, ◌-◌, ◌*◌, ◌/◌, ◌^◌, ◌<◌, ◌≤◌, min, false, sym, refl, ap, ◌∙◌, le_trans, zero-lt-suc, mul_assoc, mul_comm, div-lt_iff_lt-mul, add_comm, one-mul, mul_left_comm, arith, lit≤, pow_pos, pow_mono}
use native.Mathlib.Nat.{add-mul-div_right}
use lib.Ieee.{Float, up, down, binary64, mul, to_unsigned}
use lib.Ieee.Exact.{HasValue}
use lib.Ieee.Fits.{down_pos}
use lib.Ieee.Nearest.{div_same}
use Rattle.rto.specs.declared.RtoManager.{RtoManager}
use Rattle.rto.specs.Rto.{Answered, f64, gap, four_times, clamp, sampled, fresh}
use Rattle.rto.specs.Calls.{measure, called, after}
use Rattle.rto.specs.Exact.{places, none, followed, exactly}
use Rattle.rto.specs.Rfc.{RfcRttvar, RfcSrtt, Taken, RfcSrttAfter, RfcRto}
use Rattle.rto.proofs.Cases.{taken, first, next}
use Rattle.rto.proofs.Float.{whole, plain, mul_at, written, dyadic}
use Rattle.rto.proofs.Runs.{quadruple, from_fresh, measured_sample}
use Rattle.rto.proofs.Exact.{Held, blank, begins, kept}

-- ---- the recurrence
scaled : (n d g p q : ℕ) → g ≡ d → q ≡ p * 4 → (3 * n + d * p) * (4 * p * 4) ≡ (3 * n * 4 + 1 * g * (4 * p)) * q
scaled n d g p q e f =
    let a : 1 * g * (4 * p) ≡ 4 * (d * p) = ap (λ (z : ℕ). z * (4 * p)) (one-mul g ∙ e) ∙ mul_left_comm d 4 p in
    let b : 3 * n * 4 + 1 * g * (4 * p) ≡ (3 * n + d * p) * 4 = omega arith in
    ap (λ (z : ℕ). (3 * n + d * p) * z) (mul_assoc 4 p 4) ∙ sym (mul_assoc (3 * n + d * p) 4 (p * 4)) ∙ ap (λ (z : ℕ). z * (p * 4)) (sym b) ∙ ap (λ (z : ℕ). (3 * n * 4 + 1 * g * (4 * p)) * z) (sym f)

gap_one : (s r : ℕ) → gap (s * 1) (r * 1) ≡ gap s r
gap_one s r = omega arith

pub rfc_rttvar : RfcRttvar
rfc_rttvar = (
  λ r. refl,
  λ s r x. scaled x.num (gap s r) (gap (s * 1) (r * 1)) (2 ^ places x.later) (2 ^ places (x.later + 1)) (gap_one s r) (quadruple x.later),
)

pub rfc_srtt : RfcSrtt
rfc_srtt s r = omega arith

-- ---- the state after a measurement

-- what a measurement that is taken leaves is the sample's
left : (t : RtoManager) (r : ℕ) → Taken t r → called t (measure r) ≡ sampled t r
left t r h = ap (λ (m : Answered ℕ). m.1) (taken t r h.within h.allowed)

pub rfc_srtt_after : RfcSrttAfter
rfc_srtt_after =
    record {
      first = λ t r h e. ap (λ (u : RtoManager). u.srtt) (left t r h ∙ first t r e);
      later = λ t r h e. ap (λ (u : RtoManager). u.srtt) (left t r h ∙ next t r e) ∙ rfc_srtt t.srtt r;
    }

-- ---- the RTO
-- the cast of a value f / c that is in range
cast : (y : Float) (f c : ℕ) → 0 < c → HasValue y false f c → f < 2 ^ 64 * c → to_unsigned 64 y ≡ f / c
unfolding to_unsigned
cast y f c C h l =
    plain (λ (z : Float). to_unsigned 64 z ≡ f / c) y f c h
    (λ m e p. ap (λ (z : ℕ). min z (2 ^ 64 - 1)) (div_same (m * up e) (down e) f c (down_pos e) C p) ∙ under (f / c) ((div-lt_iff_lt-mul C).1 l))
  where
    under : (q : ℕ) → q < 2 ^ 64 → min q (2 ^ 64 - 1) ≡ q
    under q h = omega arith

module _ (v : Float) (n k : ℕ) (early : k ≤ 37) (bound : n ≤ 60000 * 2 ^ k) (has : HasValue v false n (2 ^ k)) where
  small : n < 2 ^ 53
  small = let p : 2 ^ k ≤ 2 ^ 37 = pow_mono early in omega arith

  four_exact : HasValue (mul binary64 (f64 4) v) false (n * 4) (2 ^ k)
  four_exact =
      written (mul binary64 (f64 4) v) (4 * n) (1 * 2 ^ k) (n * 4) (2 ^ k) (mul_at (f64 4) v 4 1 n (2 ^ k) (zero-lt-suc 0) (pow_pos k) (whole 4 (lit≤ tt)) has)
      (mul_comm 4 n) (one-mul (2 ^ k)) (dyadic n 2 k small (lit≤ tt) (le_trans early (lit≤ tt)))

  spread : four_times v ≡ n * 4 / 2 ^ k
  unfolding four_times
  spread = cast (mul binary64 (f64 4) v) (n * 4) (2 ^ k) (pow_pos k) four_exact (fits (2 ^ k) (pow_pos k) bound)
    where
      fits : (p : ℕ) → 0 < p → n ≤ 60000 * p → n * 4 < 2 ^ 64 * p
      fits p P h = omega arith

floor_rto : (s n p : ℕ) → 0 < p → (s * (1 * p) + 4 * n * 1) / (1 * (1 * p)) ≡ s + n * 4 / p
floor_rto s n p P =
    let e : 1 * p ≡ p = one-mul p in
    ap (λ (z : ℕ). (s * z + 4 * n * 1) / (1 * z)) e
    ∙ ap (λ (z : ℕ). (s * p + 4 * n * 1) / z) e
    ∙ ap (λ (z : ℕ). z / p) (turned (s * p))
    ∙ add-mul-div_right (n * 4) s P
    ∙ add_comm (n * 4 / p) s
  where
    turned : (a : ℕ) → a + 4 * n * 1 ≡ n * 4 + a
    turned a = omega arith

early_places : (l : ℕ) → l ≤ 18 → places l ≤ 37
early_places l h = omega arith

pub rfc_rto_lem : RfcRto
rfc_rto_lem initial lo hi cs r h k e l =
    let t = fresh initial lo hi in
    let u = after t cs in
    let x = followed u (exactly t none cs) (measure r) in
    let b = measured_sample Held blank begins kept u (exactly t none cs) r k e (from_fresh Held blank begins kept initial lo hi cs h) in
    let w = called u (measure r) in
    let i = places x.later in
    b.given
    ∙ ap (λ (q : ℕ). clamp w.rto_min w.rto_max (w.srtt + q)) (spread w.rttvar x.num i (early_places x.later l) b.both.bound (b.both.holds l))
    ∙ ap (clamp w.rto_min w.rto_max) (sym (floor_rto w.srtt x.num (2 ^ i) (pow_pos i)))
