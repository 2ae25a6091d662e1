-- Document 01, "Leaves first": the RTO. Every operation on floats is `lib.Ieee`'s, each rounded, in 01's order.
use Rattle.std.specs.Prelude.{ℕ, ◌+◌, ◌-◌, ◌*◌, ◌/◌, min, max, Bool, false, cond, ◌||◌, pos, ◌==◌, nat_lt, Float, Result, Ok, Err}
use Rattle.std.specs.Float.{binary64}
use Rattle.std.specs.Float.Ieee.{mul, add, div, of_int, to_unsigned}
use Rattle.limits.specs.Limits.{setting_max}
use Rattle.limits.specs.declared.Refusal.{Refusal}
use Rattle.limits.specs.declared.Refusal.TheVariants.{BeyondLimit, BadBounds}
use Rattle.rto.specs.declared.RtoManager.{RtoManager}

-- ---- the numbers

-- n as an f64
abbrev pub f64 : ℕ → Float
f64 n = of_int binary64 (pos n)

-- |a - b|
abbrev pub gap : ℕ → ℕ → ℕ
gap a b = (a - b) + (b - a)

-- R / 2
unfoldable pub first_var : ℕ → Float
first_var r = div binary64 (f64 r) (f64 2)

-- 6.0 x rttvar + 2.0 x |srtt - R|
abbrev pub weighed : Float → ℕ → ℕ → Float
weighed v s r = add binary64 (mul binary64 (f64 6) v) (mul binary64 (f64 2) (f64 (gap s r)))

-- (6.0 x rttvar + 2.0 x |srtt - R|) / 8.0
unfoldable pub next_var : Float → ℕ → ℕ → Float
next_var v s r = div binary64 (weighed v s r) (f64 8)

-- floor((7 x srtt + R) / 8)
abbrev pub next_srtt : ℕ → ℕ → ℕ
next_srtt s r = (7 * s + r) / 8

-- floor(4 x rttvar), as the cast to u64 has it: at the nearest end of the range where it is outside
unfoldable pub four_times : Float → ℕ
four_times v = to_unsigned 64 (mul binary64 (f64 4) v)

-- x, clamped to minimum and maximum; the minimum, should it be above the maximum
abbrev pub clamp : ℕ → ℕ → ℕ → ℕ
clamp lo hi x = max lo (min x hi)

-- ---- the state

-- the state with another srtt, rttvar and RTO
abbrev pub renewed : RtoManager → ℕ → Float → ℕ → RtoManager
renewed t s v x =
    record {
      srtt = s;
      rttvar = v;
      rto = x;
      no_update = t.no_update;
      rto_initial = t.rto_initial;
      rto_min = t.rto_min;
      rto_max = t.rto_max;
    }

-- the RTO that an srtt and an rttvar give: srtt + floor(4 x rttvar), clamped
abbrev pub rto_of : RtoManager → ℕ → Float → ℕ
rto_of t s v = clamp t.rto_min t.rto_max (s + four_times v)

-- the state with a new srtt and rttvar, and their RTO
abbrev pub settled : RtoManager → ℕ → Float → RtoManager
settled t s v = renewed t s v (rto_of t s v)

-- whether the next measurement counts as first: srtt is 0
abbrev pub counts_first : RtoManager → Bool
counts_first t = t.srtt == 0

-- the state after a measurement R that is taken; rttvar is made with the old srtt
abbrev pub sampled : RtoManager → ℕ → RtoManager
sampled t r = cond (counts_first t) (settled t r (first_var r)) (settled t (next_srtt t.srtt r) (next_var t.rttvar t.srtt r))

-- a manager without a sample; the initial RTO is not clamped
abbrev pub fresh : ℕ → ℕ → ℕ → RtoManager
fresh initial lo hi =
    record { srtt = 0; rttvar = f64 0; rto = initial; no_update = false; rto_initial = initial; rto_min = lo; rto_max = hi }

-- the state with an RTO and a flag that the caller gives
abbrev pub given : RtoManager → ℕ → Bool → RtoManager
given t x b =
    record { srtt = t.srtt; rttvar = t.rttvar; rto = x; no_update = b; rto_initial = t.rto_initial; rto_min = t.rto_min; rto_max = t.rto_max }

-- ---- the calls

-- above the limit of RTO settings and measured RTTs
abbrev pub beyond : ℕ → Bool
beyond x = nat_lt setting_max x

-- creation: refusal 1 for a setting beyond the limit, then 2 for a minimum above the maximum
abbrev pub new_of : ℕ → ℕ → ℕ → Result RtoManager Refusal
new_of initial lo hi =
    cond (beyond initial || beyond lo || beyond hi) (Err BeyondLimit)
    (cond (nat_lt hi lo) (Err BadBounds) (Ok (fresh initial lo hi)))

-- what a call that may be refused answers, and the state that it leaves
abbrev pub Answered : Type 0 → Type 0
Answered A = Result A Refusal × RtoManager

-- measuring: refusal 1 first, no change while no_update is set, and otherwise a sample; the answer is srtt
abbrev pub measured_of : RtoManager → ℕ → Answered ℕ
measured_of t r =
    cond (beyond r) (Err BeyondLimit, t)
    (cond t.no_update (Ok t.srtt, t) (Ok (sampled t r).srtt, sampled t r))

-- the RTO as it stands
abbrev pub get_of : RtoManager → ℕ
get_of t = t.rto

-- `reset`: srtt 0, rttvar 0, RTO initial, unclamped; no change while no_update is set
abbrev pub reset_of : RtoManager → RtoManager
reset_of t = cond t.no_update t (renewed t 0 (f64 0) t.rto_initial)

-- `set_rto`: refusal 1, or the RTO and the flag are kept as they are given
abbrev pub set_of : RtoManager → ℕ → Bool → Answered (Unit {0})
set_of t x b = cond (beyond x) (Err BeyondLimit, t) (Ok (record {}), given t x b)
