-- RFC 4960, section 6.3.1, over exact fractions; and how document 01's estimator follows it.
use Rattle.std.specs.Prelude.{◌≡◌, ℕ, ◌+◌, ◌-◌, ◌*◌, ◌/◌, ◌^◌, ◌≤◌, false, List, ◌≢◌}
use Rattle.limits.specs.Limits.{setting_max}
use Rattle.rto.specs.declared.RtoManager.{RtoManager}
use Rattle.rto.specs.Rto.{gap, next_srtt, clamp, fresh}
use Rattle.rto.specs.Calls.{Call, measure, called, after}
use Rattle.rto.specs.Exact.{Exact, places, none, begun, grown, followed, exactly, Short}

-- ---- fractions

-- num / den, for a den above 0
pub record Fraction : Type 0 where
  pub num : ℕ
  pub den : ℕ

-- a / b
abbrev pub over : ℕ → ℕ → Fraction
over a b = record { num = a; den = b }

-- n / 1
abbrev pub whole : ℕ → Fraction
whole n = over n 1

-- x + y
abbrev pub plus : Fraction → Fraction → Fraction
plus x y = over (x.num * y.den + y.num * x.den) (x.den * y.den)

-- x - y, where y is at most x
abbrev pub minus : Fraction → Fraction → Fraction
minus x y = over (x.num * y.den - y.num * x.den) (x.den * y.den)

-- x times y
abbrev pub times : Fraction → Fraction → Fraction
times x y = over (x.num * y.num) (x.den * y.den)

-- |x - y|
abbrev pub distance : Fraction → Fraction → Fraction
distance x y = over (gap (x.num * y.den) (y.num * x.den)) (x.den * y.den)

-- x = y
abbrev pub Same : Fraction → Fraction → Type 0
Same x y = x.num * y.den ≡ y.num * x.den

-- the whole part of x
abbrev pub floor : Fraction → ℕ
floor x = x.num / x.den

-- ---- the RFC

-- RTO.Alpha
abbrev pub alpha : Fraction
alpha = over 1 8

-- RTO.Beta
abbrev pub beta : Fraction
beta = over 1 4

-- first measurement: RTTVAR = R / 2
abbrev pub rfc_first_var : ℕ → Fraction
rfc_first_var r = over r 2

-- RTTVAR = (1 - beta) x RTTVAR + beta x |SRTT - R|
abbrev pub rfc_next_var : Fraction → Fraction → ℕ → Fraction
rfc_next_var rttvar srtt r = plus (times (minus (whole 1) beta) rttvar) (times beta (distance srtt (whole r)))

-- SRTT = (1 - alpha) x SRTT + alpha x R
abbrev pub rfc_next_srtt : Fraction → ℕ → Fraction
rfc_next_srtt srtt r = plus (times (minus (whole 1) alpha) srtt) (times alpha (whole r))

-- RTO = SRTT + 4 x RTTVAR
abbrev pub rfc_rto : Fraction → Fraction → Fraction
rfc_rto srtt rttvar = plus srtt (times (whole 4) rttvar)

-- ---- the estimator beside it

-- the exact rttvar as a fraction
abbrev pub fraction : Exact → Fraction
fraction x = over x.num (2 ^ places x.later)

-- the RTO of the RFC for the srtt of t and the exact rttvar: its whole part, clamped to the limits of t
abbrev pub rfc_clamped : RtoManager → Exact → ℕ
rfc_clamped t x = clamp t.rto_min t.rto_max (floor (rfc_rto (whole t.srtt) (fraction x)))

-- Claim: the exact rttvar is the RFC's RTTVAR, at a first measurement and at a later one.
abbrev pub RfcRttvar : Type 0
RfcRttvar = ((r : ℕ) → Same (fraction (begun r)) (rfc_first_var r)) × ((s r : ℕ) (x : Exact) → Same (fraction (grown s x r)) (rfc_next_var (fraction x) (whole s) r))

-- Claim: a later measurement leaves the whole part of the RFC's SRTT.
abbrev pub RfcSrtt : Type 0
RfcSrtt = (s r : ℕ) → next_srtt s r ≡ floor (rfc_next_srtt (whole s) r)

-- a measurement R is taken: it is within its limit, and no_update is not set
pub record Taken (t : RtoManager) (r : ℕ) : Type 0 where
  pub within : r ≤ setting_max
  pub allowed : t.no_update ≡ false

-- Claim: the state after a first measurement has SRTT = R, and the state after a later one the whole part of the RFC's SRTT.
pub record RfcSrttAfter : Type 0 where
  pub first : (t : RtoManager) (r : ℕ) → Taken t r → t.srtt ≡ 0 → (called t (measure r)).srtt ≡ r
  pub later : (t : RtoManager) (r : ℕ) → Taken t r → (t.srtt ≢ 0) → (called t (measure r)).srtt ≡ floor (rfc_next_srtt (whole t.srtt) r)

-- Claim: if every R is at most 60,000, the RTO right after a first measurement and each of the next 18 is the whole part of the RFC's, clamped.
abbrev pub RfcRto : Type 0
RfcRto = (initial lo hi : ℕ) (cs : List Call) (r : ℕ) → Short cs → r ≤ 60000 →
    let t = fresh initial lo hi in
    let u = after t cs in
    let x = followed u (exactly t none cs) (measure r) in
    u.no_update ≡ false → x.later ≤ 18 → (called u (measure r)).rto ≡ rfc_clamped (called u (measure r)) x
