-- The relations of `timer_cells`, of the 18 words of six timers before and after: the table that they mean is the model's, the reply is the
-- model's answer, the words of the other timers stay, and a refusal leaves every word.
use Rattle.std.specs.Prelude.{Bool, ℕ}
use Rattle.timer_cells.specs.declared.Due.{Due}
use Rattle.timer_cells.specs.declared.Expired.{Expired}
use Rattle.timer_cells.specs.Says as Cells
use Rattle.lent_timer.specs.declared.Timers.{Timers}

-- creation, with the maxima of the init and the data retransmissions: a refusal leaves the timers that were there
abbrev pub New : (hasInit : Bool) → (init : ℕ) → (hasData : Bool) → (most rtoMax : ℕ) → Timers → Timers → ℕ → Type 0
New hasInit init hasData most rtoMax s s' y = Cells.Creates 18 hasInit init hasData most rtoMax s.head s.cells s'.head s'.cells y

-- the smallest deadline of the six
abbrev pub NextTimeout : Timers → Due → Type 0
NextTimeout s y = Cells.NextTimeout 18 s.head s.cells y

-- the deadline of a timer
abbrev pub Get : (timer : ℕ) → Timers → Due → Type 0
Get timer s y = Cells.Gets 18 timer s.head s.cells y

-- setting changes only the deadline
abbrev pub Set : (timer : ℕ) → (is : Bool) → (time : ℕ) → Timers → Timers → ℕ → Type 0
Set timer is time s s' y = Cells.Sets 18 timer is time s.head s.cells s'.head s'.cells y

-- a start: the deadline is the clock and the wait, backed off by the count
abbrev pub Start : (timer clock interval : ℕ) → Timers → Timers → ℕ → Type 0
Start timer clock interval s s' y = Cells.Starts 18 timer clock interval s.head s.cells s'.head s'.cells y

-- restart-if-stale: a start, where there is no deadline at or after the clock
abbrev pub RestartIfStale : (timer clock interval : ℕ) → Timers → Timers → ℕ → Type 0
RestartIfStale timer clock interval s s' y = Cells.Restarts 18 timer clock interval s.head s.cells s'.head s'.cells y

-- stop clears deadline, count and suppression
abbrev pub Stop : (timer : ℕ) → Timers → Timers → ℕ → Type 0
Stop timer s s' y = Cells.Stops 18 timer s.head s.cells s'.head s'.cells y

-- reset clears only the count
abbrev pub ResetRetrans : (timer : ℕ) → Timers → Timers → ℕ → Type 0
ResetRetrans timer s s' y = Cells.Resets 18 timer s.head s.cells s'.head s'.cells y

-- the next expiry will count nothing
abbrev pub SuppressErrorCount : (timer : ℕ) → Timers → Timers → ℕ → Type 0
SuppressErrorCount timer s s' y = Cells.Suppresses 18 timer s.head s.cells s'.head s'.cells y

-- whether a timer is expired: asking counts
abbrev pub IsExpired : (timer clock : ℕ) → Timers → Timers → Expired → Type 0
IsExpired timer clock s s' y = Cells.Checks 18 timer clock s.head s.cells s'.head s'.cells y
