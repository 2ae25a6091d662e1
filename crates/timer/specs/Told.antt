-- Document 01, "What the caller hears": the number and the values of each case of the timers' answers.
use Rattle.std.specs.Prelude.{[], ◌∷◌, Result, Ok, Err}
use Rattle.limits.specs.Flags.{bit_of}
use Rattle.limits.specs.Refusals.{refusal_number}
use Rattle.limits.specs.declared.Refusal.{Refusal}
pub use Rattle.limits.specs.Told.{Told, tells, refusing}
use Rattle.timer.specs.declared.Expiry.{Expiry}

-- a call that changes a timer: done
abbrev pub told_answer : Result (Unit {0}) Refusal → Told
told_answer (Ok u) = tells []
told_answer (Err r) = refusing (refusal_number r)

-- an expiry: expired, failure, count
abbrev pub told_expiry : Result Expiry Refusal → Told
told_expiry (Ok e) = tells (bit_of e.expired ∷ bit_of e.failure ∷ e.count ∷ [])
told_expiry (Err r) = refusing (refusal_number r)
