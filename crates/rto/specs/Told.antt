-- Document 01, "What the caller hears": the number and the values of each case of the estimator's answers.
use Rattle.std.specs.Prelude.{ℕ, [], Result, Ok, Err}
pub use Rattle.limits.specs.Told.{Told, tells, refusing, tells_number}
use Rattle.limits.specs.Refusals.{refusal_number}
use Rattle.limits.specs.declared.Refusal.{Refusal}
use Rattle.rto.specs.declared.RtoManager.{RtoManager}

-- a creation: done, and a manager comes with it
abbrev pub told_made : Result RtoManager Refusal → Told
told_made (Ok t) = tells []
told_made (Err n) = refusing (refusal_number n)

-- a measurement: srtt
abbrev pub told_measured : Result ℕ Refusal → Told
told_measured (Ok s) = tells_number s
told_measured (Err n) = refusing (refusal_number n)

-- `set_rto`: done
abbrev pub told_set : Result (Unit {0}) Refusal → Told
told_set (Ok u) = tells []
told_set (Err n) = refusing (refusal_number n)
