-- In document 01's ranges the Rust's own operations never wrap, saturate or leave the finite floats, and its `clamp` never panics.
use Rattle.std.specs.Prelude.{◌≡◌, ℕ, ◌+◌, ◌*◌, ◌^◌, ◌<◌, ◌≤◌, false, List, Float}
use Rattle.std.specs.Float.{nan, inf, fin, binary64}
use Rattle.std.specs.Float.Ieee.{up, down, mul}
use Rattle.limits.specs.Limits.{setting_max}
use Rattle.rto.specs.declared.RtoManager.{RtoManager}
use Rattle.rto.specs.Rto.{f64, gap, weighed, sampled, four_times, fresh}
use Rattle.rto.specs.Calls.{Accepted, Call, after}

-- x is finite, not negative (nor -0), and at most b
abbrev pub AtMost : Float → ℕ → Type 0
AtMost nan b = ⊥
AtMost (inf s) b = ⊥
AtMost (fin s m e) b = (s ≡ false) × (m * up e ≤ b * down e)

-- what a state holds
pub record StateInRange (t : RtoManager) : Type 0 where
  pub srtt : t.srtt ≤ setting_max
  pub rttvar : AtMost t.rttvar (2 ^ 32)
  pub rto : t.rto ≤ setting_max
  pub initial : t.rto_initial ≤ setting_max
  pub maximum : t.rto_max ≤ setting_max
  pub ordered : t.rto_min ≤ t.rto_max

-- what the Rust computes for a measurement R in the state t: the floats, the casts to i64, and the sums in u64
pub record StepInRange (t : RtoManager) (r : ℕ) : Type 0 where
  pub srtt_i64 : t.srtt < 2 ^ 63
  pub rtt_i64 : r < 2 ^ 63
  pub six : AtMost (mul binary64 (f64 6) t.rttvar) (6 * 2 ^ 32)
  pub two : AtMost (mul binary64 (f64 2) (f64 (gap t.srtt r))) (2 ^ 33)
  pub sum : AtMost (weighed t.rttvar t.srtt r) (2 ^ 35)
  pub seven : 7 * t.srtt + r < 2 ^ 64
  pub four : AtMost (mul binary64 (f64 4) (sampled t r).rttvar) (2 ^ 34)
  pub rto : (sampled t r).srtt + four_times (sampled t r).rttvar < 2 ^ 64

-- Claim: after any calls from a creation that is done, with any numbers, the state is in range, and so is every step of the next measurement.
abbrev pub InRange : Type 0
InRange = (initial lo hi : ℕ) (cs : List Call) → Accepted initial lo hi →
    let t = after (fresh initial lo hi) cs in
    StateInRange t × ((r : ℕ) → r ≤ setting_max → StepInRange t r)
