-- What the caller hears of each call, by document 01's numbers, and what a run of calls leaves.
use Rattle.std.specs.Prelude.{◌≡◌, ℕ, Bool, ◌⊎◌, List, [], ◌∷◌, ◌≢◌, Result, Err}
use Rattle.limits.specs.declared.Refusal.{Refusal}
use Rattle.limits.specs.declared.Refusal.TheVariants.{BeyondLimit, BadBounds}
use Rattle.rto.specs.declared.RtoManager.{RtoManager}
use Rattle.rto.specs.Told.{Told, tells, refusing, told_made, told_measured, told_set}
use Rattle.rto.specs.Rto.{Answered, new_of, measured_of, get_of, reset_of, set_of}

-- 01's number for a creation: 0 is done, and a manager comes with it
abbrev pub number_of : Result RtoManager Refusal → ℕ
number_of a = (told_made a).number

-- creation with these settings is done
abbrev pub Accepted : ℕ → ℕ → ℕ → Type 0
Accepted initial lo hi = number_of (new_of initial lo hi) ≡ 0

-- the calls of a manager
pub data Call : Type 0 where
  measure : ℕ → Call
  get : Call
  reset : Call
  set : ℕ → Bool → Call

-- what a call gives: 01's number, the values that come with it, and the state that it leaves
pub record Outcome : Type 0 where
  pub number : ℕ
  pub values : List ℕ
  pub state : RtoManager

-- what is told, and this state
abbrev pub telling : Told → RtoManager → Outcome
telling x t = record { number = x.number; values = x.values; state = t }

-- number 0, with these values and this state
abbrev pub done : List ℕ → RtoManager → Outcome
done vs = telling (tells vs)

-- a refusal gives its number only; the state stays
abbrev pub refused : ℕ → RtoManager → Outcome
refused n = telling (refusing n)

-- a measurement: srtt is its value
abbrev pub of_measured : Answered ℕ → Outcome
of_measured a = telling (told_measured a.0) a.1

-- `set_rto`
abbrev pub of_set : Answered (Unit {0}) → Outcome
of_set a = telling (told_set a.0) a.1

-- a call in the state t
abbrev pub outcome : RtoManager → Call → Outcome
outcome t (measure r) = of_measured (measured_of t r)
outcome t get = done (get_of t ∷ []) t
outcome t reset = done [] (reset_of t)
outcome t (set x b) = of_set (set_of t x b)

-- the state that a call leaves
abbrev pub called : RtoManager → Call → RtoManager
called t c = (outcome t c).state

-- the state that a list of calls leaves, one after the other
abbrev pub after : RtoManager → List Call → RtoManager
after t [] = t
after t (c ∷ cs) = after (called t c) cs

-- Claim: a call that is refused gives its number only, and leaves the state as it was.
abbrev pub RefusedKeeps : Type 0
RefusedKeeps = (t : RtoManager) (c : Call) → ((outcome t c).number ≢ 0) → outcome t c ≡ refused (outcome t c).number t

-- Claim: a refusal is one of those that 01 lists: creation 1 and 2, measuring and `set_rto` 1; the other calls answer none.
pub record RefusalsAreListed : Type 0 where
  pub creation : (initial lo hi : ℕ) (n : Refusal) → new_of initial lo hi ≡ Err n → (n ≡ BeyondLimit) ⊎ (n ≡ BadBounds)
  pub measuring : (t : RtoManager) (r : ℕ) (n : Refusal) → (measured_of t r).0 ≡ Err n → n ≡ BeyondLimit
  pub setting : (t : RtoManager) (x : ℕ) (b : Bool) (n : Refusal) → (set_of t x b).0 ≡ Err n → n ≡ BeyondLimit
