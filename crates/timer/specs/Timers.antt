-- Document 01, "Leaves first": the table that holds the six timers, and the rules for one timer.
use Rattle.std.specs.Prelude.{ℕ, zero, suc, ◌+◌, ◌*◌, ◌^◌, min, Bool, cond, ltb, eqb, get_or, set, None}
use Rattle.limits.specs.Moments.{Moment}
use Rattle.timer.specs.declared.Timer.{Timer}
use Rattle.timer.specs.declared.Timer.TheVariants.{Ack}
use Rattle.timer.specs.declared.Entry.{Entry}
use Rattle.timer.specs.Entries.{place, idle_entry}
use Rattle.timer.specs.declared.TimerTable.{TimerTable}

-- the entry of a timer
abbrev pub entry_of : TimerTable → Timer → Entry
entry_of t timer = get_or t.entries (place timer) (idle_entry None)

-- the table with another entry for one timer
abbrev pub with_entry : TimerTable → Timer → Entry → TimerTable
with_entry t timer e = record { entries = set t.entries (place timer) e; rto_max = t.rto_max }

-- an entry with another count
abbrev pub with_count : Entry → ℕ → Entry
with_count e n = record { deadline = e.deadline; retrans = n; maximum = e.maximum; suppressed = e.suppressed }

-- an entry with its next expiry suppressed or not
abbrev pub with_suppression : Entry → Bool → Entry
with_suppression e b = record { deadline = e.deadline; retrans = e.retrans; maximum = e.maximum; suppressed = b }

-- the table with another deadline for one timer
abbrev pub with_deadline : TimerTable → Timer → Moment → TimerTable
with_deadline t timer d =
    let e = entry_of t timer in
    with_entry t timer (record { deadline = d; retrans = e.retrans; maximum = e.maximum; suppressed = e.suppressed })

-- the smaller of interval x 2^n and rto_max for n below 31, and rto_max from 31 on
abbrev pub backoff : ℕ → ℕ → ℕ → ℕ
backoff interval n rtoMax = cond (ltb n 31) (min (interval * 2 ^ n) rtoMax) rtoMax

-- an interval doubled a number of times, where doubling stops once rto_max is reached
abbrev pub doubling : (interval times rtoMax : ℕ) → ℕ
doubling interval zero rtoMax = cond (ltb interval rtoMax) interval rtoMax
doubling interval (suc times) rtoMax = cond (ltb interval rtoMax) (doubling (interval + interval) times rtoMax) rtoMax

-- how long a started timer waits: Ack its interval, the others the back-off by their count
abbrev pub wait_of : TimerTable → Timer → ℕ → ℕ
wait_of t timer interval =
    cond (eqb (place timer) (place Ack)) interval (backoff interval (entry_of t timer).retrans t.rto_max)
