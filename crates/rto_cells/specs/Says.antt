-- What each call says, of n words: the estimator that head and words mean afterwards is the model's, the reply is the model's answer, and a refusal
-- leaves the head and every word. The model's calls are those of `rto`.
use Rattle.std.specs.Prelude.{◌≡◌, Bool, cond, List, [], ℕ, ◌≤◌, eqb, Result, Ok, Err}
use Rattle.limits.specs.Refusals.{beyond_limit}
use Rattle.limits.specs.Told.{Told, value_at, given}
use Rattle.limits.specs.declared.Refusal.{Refusal}
use Rattle.rto.specs.declared.RtoManager.{RtoManager}
use Rattle.rto.specs.Told.{told_made}
use Rattle.rto.specs.Calls.{Outcome, telling, done, refused, of_measured, of_set}
use Rattle.rto.specs.Rto.{new_of, measured_of, get_of, reset_of, set_of}
use Rattle.rto_cells.specs.Words.{manager_of}
use Rattle.rto_cells.specs.declared.Head.{Head}
use Rattle.rto_cells.specs.declared.Smoothed.{Smoothed}

-- ---- replies

-- 01's number, and the smoothed time where there is one
abbrev pub smoothed_in : Told → Smoothed
smoothed_in t = record { value = value_at 0 t; refusal = t.number; yes = given t }

-- ---- a call

-- what an outcome tells
abbrev pub told_of : Outcome → Told
told_of o = record { number = o.number; values = o.values }

-- a creation, where this estimator was before: a refusal leaves it
abbrev pub of_made : RtoManager → Result RtoManager Refusal → Outcome
of_made t (Ok m) = telling (told_made (Ok m)) m
of_made t (Err n) = telling (told_made (Err n)) t

-- an estimator has four words; any other number of them is refused
abbrev pub in_words : (n : ℕ) → RtoManager → Outcome → Outcome
in_words n t o = cond (eqb n 4) o (refused beyond_limit t)

-- a call has this answer and leaves this estimator; where it is refused, the head and every word stay
pub record Does {A : Type 0} (answer : A) (after : RtoManager) (refusal : ℕ) (d : Head) (ws : List ℕ) (d' : Head) (ws' : List ℕ) (y : A) : Type 0 where
  pub said : y ≡ answer
  pub state : manager_of d' ws' ≡ after
  pub head : 1 ≤ refusal → d' ≡ d
  pub kept : 1 ≤ refusal → ws' ≡ ws

-- a call whose answer is a number alone
abbrev pub Changes : Outcome → Head → List ℕ → Head → List ℕ → ℕ → Type 0
Changes o d ws d' ws' y = Does o.number o.state y d ws d' ws' y

-- ---- the calls

-- creation: the initial RTO, the least and the largest
abbrev pub Creates : (n initial low high : ℕ) → Head → List ℕ → Head → List ℕ → ℕ → Type 0
Creates n initial low high d ws = Changes (in_words n (manager_of d ws) (of_made (manager_of d ws) (new_of initial low high))) d ws

-- a measurement: the answer is the smoothed time
abbrev pub Measures : (n rtt : ℕ) → Head → List ℕ → Head → List ℕ → Smoothed → Type 0
Measures n rtt d ws d' ws' y =
    let o = in_words n (manager_of d ws) (of_measured (measured_of (manager_of d ws) rtt)) in
    Does (smoothed_in (told_of o)) o.state y.refusal d ws d' ws' y

-- the RTO as it stands
abbrev pub Gets : Head → List ℕ → ℕ → Type 0
Gets d ws y = y ≡ get_of (manager_of d ws)

-- `reset`: no measurement, and the initial RTO
abbrev pub Resets : (n : ℕ) → Head → List ℕ → Head → List ℕ → ℕ → Type 0
Resets n d ws = Changes (in_words n (manager_of d ws) (done [] (reset_of (manager_of d ws)))) d ws

-- `set_rto`: RTO and flag as they are given
abbrev pub Sets : (n rto : ℕ) → (noUpdate : Bool) → Head → List ℕ → Head → List ℕ → ℕ → Type 0
Sets n x b d ws = Changes (in_words n (manager_of d ws) (of_set (set_of (manager_of d ws) x b))) d ws
