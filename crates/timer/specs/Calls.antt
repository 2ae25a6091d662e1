-- Document 01, "Leaves first": what each call on the timers answers, and the table that it leaves.
use Rattle.std.specs.Prelude.{ℕ, ◌+◌, List, [], ◌∷◌, map, Bool, true, false, cond, not, ◌&&◌, leb, Some, None, Result, Ok, Err}
use Rattle.limits.specs.Limits.{clock_max, setting_max, count_max}
use Rattle.limits.specs.declared.Refusal.{Refusal}
use Rattle.limits.specs.declared.Refusal.TheVariants.{BeyondLimit, CountFull}
use Rattle.timer.specs.declared.Timer.{Timer}
use Rattle.timer.specs.declared.Timer.TheVariants.{T1Init, T1Cookie, T2Shutdown, T3RTX, Reconfig, Ack}
use Rattle.timer.specs.declared.Entry.{Entry}
use Rattle.timer.specs.declared.TimerTable.{TimerTable}
use Rattle.timer.specs.declared.Expiry.{Expiry}
use Rattle.limits.specs.Moments.{Moment, passed, ahead, beyond, earlier}
use Rattle.limits.specs.Told.{value_at}
use Rattle.timer.specs.Told.{told_answer, told_expiry}
use Rattle.timer.specs.Entries.{Maximum, order, idle_entry, fails_at}
use Rattle.timer.specs.Timers.{entry_of, with_deadline, with_count, with_suppression, with_entry, wait_of}

-- an answer, and the table after the call
pub record Changed : Type 0 where
  pub answer : Result (Unit {0}) Refusal
  pub table : TimerTable

-- the same for an expiry
pub record Checked : Type 0 where
  pub answer : Result Expiry Refusal
  pub table : TimerTable

-- what a call answered, and the table that it left
abbrev pub changed : Result (Unit {0}) Refusal → TimerTable → Changed
changed a t = record { answer = a; table = t }

abbrev pub checked : Result Expiry Refusal → TimerTable → Checked
checked a t = record { answer = a; table = t }

-- 01's number for an answer: 0 for done, a refusal its own
abbrev pub number_of : Result (Unit {0}) Refusal → ℕ
number_of a = (told_answer a).number

-- the same for an expiry
abbrev pub expiry_number : Result Expiry Refusal → ℕ
expiry_number a = (told_expiry a).number

-- the count that an expiry tells; a refusal tells none
abbrev pub count_of : Result Expiry Refusal → ℕ
count_of a = value_at 2 (told_expiry a)

-- done, with the table after it
abbrev pub done : TimerTable → Changed
done t = changed (Ok tt) t

-- refused, with the table as it was
abbrev pub refused : Refusal → TimerTable → Changed
refused r t = changed (Err r) t

-- done, or 1 where an argument is beyond its limit: the table after, or the one before
abbrev pub guarded : Bool → TimerTable → TimerTable → Changed
guarded allowed after before = cond allowed (done after) (refused BeyondLimit before)

-- an expiry's answer is expired, failure, count
abbrev pub expiry : (is fails : Bool) (n : ℕ) → Result Expiry Refusal
expiry is fails n = Ok (record { expired = is; failure = fails; count = n })

-- the same, with the table after it
abbrev pub told : Bool → Bool → ℕ → TimerTable → Checked
told expired failure count t = checked (expiry expired failure count) t

-- a refused expiry, with the table as it was
abbrev pub denied : Refusal → TimerTable → Checked
denied r t = checked (Err r) t

-- T2Shutdown and Ack have no maximum, T3RTX the data maximum, the others the init maximum
abbrev pub maximum_of : Maximum → Maximum → Timer → Maximum
maximum_of maxInit maxData T1Init = maxInit
maximum_of maxInit maxData T1Cookie = maxInit
maximum_of maxInit maxData T2Shutdown = None
maximum_of maxInit maxData T3RTX = maxData
maximum_of maxInit maxData Reconfig = maxInit
maximum_of maxInit maxData Ack = None

-- six idle timers
abbrev pub fresh : Maximum → Maximum → ℕ → TimerTable
fresh maxInit maxData rtoMax =
    record { entries = map (λ timer. idle_entry (maximum_of maxInit maxData timer)) order; rto_max = rtoMax }

-- the table beside a refused creation: six idle timers, no maximum, rto_max 0
abbrev pub unmade : TimerTable
unmade = fresh None None 0

-- creation: 1 where rto_max is beyond its limit, beside one fixed table
abbrev pub new_of : Maximum → Maximum → ℕ → Changed
new_of maxInit maxData rtoMax = guarded (leb rtoMax setting_max) (fresh maxInit maxData rtoMax) unmade

-- a value where the answer is done, or why it is refused
abbrev pub answered : {A : Type 0} → Result (Unit {0}) Refusal → A → Result A Refusal
answered (Ok u) x = Ok x
answered (Err r) x = Err r

-- what a creation gives: the table where it is done
abbrev pub created_of : Maximum → Maximum → ℕ → Result TimerTable Refusal
created_of maxInit maxData rtoMax = let c = new_of maxInit maxData rtoMax in answered c.answer c.table

-- the answer of a creation, and the table that stands beside it: `unmade` where it is refused
abbrev pub made : Result TimerTable Refusal → Changed
made (Ok t) = changed (Ok (record {})) t
made (Err r) = changed (Err r) unmade

-- setting changes only the deadline: 1 where that is beyond the clock's limit
abbrev pub set_of : TimerTable → Timer → Moment → Changed
set_of t timer d = guarded (not (beyond clock_max d)) (with_deadline t timer d) t

-- the deadline of a timer
abbrev pub get_of : TimerTable → Timer → Moment
get_of t timer = (entry_of t timer).deadline

-- the smallest deadline present, or nothing
abbrev pub soonest : List Moment → Moment
soonest [] = None
soonest (d ∷ ds) = earlier d (soonest ds)

-- the next timeout: over all six timers
abbrev pub next_timeout_of : TimerTable → Moment
next_timeout_of t = soonest (map (get_of t) order)

-- the clock and the interval are within their limits
abbrev pub startable : ℕ → ℕ → Bool
startable now interval = leb now clock_max && leb interval setting_max

-- a start changes only the deadline, to now + wait
abbrev pub started_of : TimerTable → Timer → ℕ → ℕ → TimerTable
started_of t timer now interval = with_deadline t timer (Some (now + wait_of t timer interval))

-- start: 1 where the clock or the interval is beyond its limit
abbrev pub start_of : TimerTable → Timer → ℕ → ℕ → Changed
start_of t timer now interval = guarded (startable now interval) (started_of t timer now interval) t

-- restart-if-stale: nothing where a deadline at or after now exists, otherwise a start; the same refusals
abbrev pub restart_if_stale_of : TimerTable → Timer → ℕ → ℕ → Changed
restart_if_stale_of t timer now interval =
    guarded (startable now interval) (cond (ahead now (get_of t timer)) t (started_of t timer now interval)) t

-- stop clears deadline, count and suppression
abbrev pub stop_of : TimerTable → Timer → TimerTable
stop_of t timer = with_entry t timer (idle_entry (entry_of t timer).maximum)

-- reset clears only the count
abbrev pub reset_retrans_of : TimerTable → Timer → TimerTable
reset_retrans_of t timer = with_entry t timer (with_count (entry_of t timer) 0)

-- the next expiry will count nothing
abbrev pub suppress_error_count_of : TimerTable → Timer → TimerTable
suppress_error_count_of t timer = with_entry t timer (with_suppression (entry_of t timer) true)

-- an expiry of a timer whose entry is e: a suppressed one clears the suppression, another is counted, or 12
abbrev pub expiry_of : TimerTable → Timer → Entry → Checked
expiry_of t timer e =
    cond e.suppressed (told true false e.retrans (with_entry t timer (with_suppression e false)))
    (cond (leb count_max e.retrans) (denied CountFull t)
    (told true (fails_at e.maximum (e.retrans + 1)) (e.retrans + 1) (with_entry t timer (with_count e (e.retrans + 1)))))

-- whether a timer is expired: 1 where the clock is beyond its limit, then 12
abbrev pub is_expired_of : TimerTable → Timer → ℕ → Checked
is_expired_of t timer clock =
    cond (leb clock clock_max)
    (cond (passed clock (get_of t timer))
    (expiry_of t timer (entry_of t timer))
    (told false false (entry_of t timer).retrans t))
    (denied BeyondLimit t)

-- ---- the expiry of one timer

-- what it answers: 1 where the clock is beyond its limit; nothing before the deadline; a suppressed one counts nothing; 12 where the count is full
abbrev pub answer_of : Entry → (clock : ℕ) → Result Expiry Refusal
answer_of e clock =
    cond (leb clock clock_max)
    (cond (passed clock e.deadline)
    (cond e.suppressed (expiry true false e.retrans)
    (cond (leb count_max e.retrans) (Err CountFull) (expiry true (fails_at e.maximum (e.retrans + 1)) (e.retrans + 1))))
    (expiry false false e.retrans))
    (Err BeyondLimit)

-- what it leaves: without the suppression, or one more counted
abbrev pub left_of : Entry → (clock : ℕ) → Entry
left_of e clock =
    cond (leb clock clock_max)
    (cond (passed clock e.deadline)
    (cond e.suppressed (with_suppression e false)
    (cond (leb count_max e.retrans) e (with_count e (e.retrans + 1))))
    e)
    e
