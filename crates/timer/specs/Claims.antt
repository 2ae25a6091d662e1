-- What holds of the timers over any calls; `proofs/Claims.antt` proves each claim.
use Rattle.std.specs.Prelude.{ℕ, ◌+◌, ◌≤◌, ◌≡◌, ◌⊎◌, List, [], ◌∷◌, false, cond, ltb, length, Some, Err}
use Rattle.limits.specs.Limits.{clock_max, setting_max, count_max}
use Rattle.limits.specs.declared.Refusal.{Refusal}
use Rattle.limits.specs.declared.Refusal.TheVariants.{BeyondLimit, CountFull}
use Rattle.timer.specs.declared.Timer.{Timer}
use Rattle.timer.specs.declared.Entry.{Entry}
use Rattle.timer.specs.declared.TimerTable.{TimerTable}
use Rattle.limits.specs.Moments.{Moment, beyond}
use Rattle.timer.specs.Entries.{Maximum, place, order, timer_at}
use Rattle.timer.specs.Timers.{entry_of, backoff, doubling}
use Rattle.timer.specs.Calls.{number_of, expiry_number, count_of, new_of, set_of, start_of, restart_if_stale_of, stop_of, reset_retrans_of, suppress_error_count_of, is_expired_of}

-- a call on a table, with its arguments
pub data Call : Type 0 where
  set : Timer → Moment → Call
  get : Timer → Call
  next_timeout : Call
  start : Timer → ℕ → ℕ → Call
  restart_if_stale : Timer → ℕ → ℕ → Call
  stop : Timer → Call
  reset_retrans : Timer → Call
  suppress_error_count : Timer → Call
  is_expired : Timer → ℕ → Call

-- the table that a call leaves
abbrev pub called : TimerTable → Call → TimerTable
called t (set timer d) = (set_of t timer d).table
called t (get timer) = t
called t next_timeout = t
called t (start timer now interval) = (start_of t timer now interval).table
called t (restart_if_stale timer now interval) = (restart_if_stale_of t timer now interval).table
called t (stop timer) = stop_of t timer
called t (reset_retrans timer) = reset_retrans_of t timer
called t (suppress_error_count timer) = suppress_error_count_of t timer
called t (is_expired timer clock) = (is_expired_of t timer clock).table

-- the number that the caller hears; the calls that cannot be refused are done
abbrev pub heard : TimerTable → Call → ℕ
heard t (set timer d) = number_of (set_of t timer d).answer
heard t (get timer) = 0
heard t next_timeout = 0
heard t (start timer now interval) = number_of (start_of t timer now interval).answer
heard t (restart_if_stale timer now interval) = number_of (restart_if_stale_of t timer now interval).answer
heard t (stop timer) = 0
heard t (reset_retrans timer) = 0
heard t (suppress_error_count timer) = 0
heard t (is_expired timer clock) = expiry_number (is_expired_of t timer clock).answer

-- the table after each call of a list
abbrev pub after : TimerTable → List Call → TimerTable
after t [] = t
after t (call ∷ calls) = after (called t call) calls

-- the last deadline that a start can give: the last clock, and the longest wait
abbrev pub latest : ℕ
latest = clock_max + setting_max

-- a count within its limit, and a deadline that is absent or at most the latest
pub record Within (e : Entry) : Type 0 where
  pub counted : e.retrans ≤ count_max
  pub timely : beyond latest e.deadline ≡ false

-- the order and the places agree
abbrev pub PlacesAgree : Type 0
PlacesAgree = (timer : Timer) → timer_at (place timer) ≡ Some timer

-- for every interval, count and rto_max, 0 too: doubling below 31, and rto_max from there on, is the back-off
abbrev pub SameWaits : Type 0
SameWaits = (interval n rtoMax : ℕ) → cond (ltb n 31) (doubling interval n rtoMax) rtoMax ≡ backoff interval n rtoMax

-- from a new table, every timer stays within the limits, whatever is called
abbrev pub StaysWithin : Type 0
StaysWithin =
    (maxInit maxData : Maximum) (rtoMax : ℕ) → rtoMax ≤ setting_max →
    (calls : List Call) (timer : Timer) → Within (entry_of (after (new_of maxInit maxData rtoMax).table calls) timer)

-- a refused call leaves the table as it was
abbrev pub RefusalKeeps : Type 0
RefusalKeeps = (t : TimerTable) (call : Call) → (heard t call ≡ 0 → ⊥) → called t call ≡ t

-- a refusal is one of those that 01 lists: creation, setting, start and restart 1, an expiry 1 and 12; the other calls answer none
pub record RefusalsAreListed : Type 0 where
  pub creation : (maxInit maxData : Maximum) (rtoMax : ℕ) (r : Refusal) → (new_of maxInit maxData rtoMax).answer ≡ Err r → r ≡ BeyondLimit
  pub setting : (t : TimerTable) (timer : Timer) (d : Moment) (r : Refusal) → (set_of t timer d).answer ≡ Err r → r ≡ BeyondLimit
  pub starting : (t : TimerTable) (timer : Timer) (now interval : ℕ) (r : Refusal) → (start_of t timer now interval).answer ≡ Err r → r ≡ BeyondLimit
  pub restarting : (t : TimerTable) (timer : Timer) (now interval : ℕ) (r : Refusal) → (restart_if_stale_of t timer now interval).answer ≡ Err r → r ≡ BeyondLimit
  pub expiring : (t : TimerTable) (timer : Timer) (clock : ℕ) (r : Refusal) → (is_expired_of t timer clock).answer ≡ Err r → (r ≡ BeyondLimit) ⊎ (r ≡ CountFull)

-- the count that an expiry tells is the one that the table then holds
abbrev pub CountIsKept : Type 0
CountIsKept =
    (t : TimerTable) (timer : Timer) (clock : ℕ) → length t.entries ≡ length order →
    expiry_number (is_expired_of t timer clock).answer ≡ 0 →
    count_of (is_expired_of t timer clock).answer ≡ (entry_of (is_expired_of t timer clock).table timer).retrans
