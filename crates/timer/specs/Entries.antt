-- Document 01, "Leaves first": the six timers and what is kept of one.
use Rattle.std.specs.Prelude.{ℕ, List, [], ◌∷◌, Bool, false, cond, ltb, length, get_or, Option, Some, None}
use Rattle.timer.specs.declared.Timer.{Timer}
use Rattle.timer.specs.declared.Timer.TheVariants.{T1Init, T1Cookie, T2Shutdown, T3RTX, Reconfig, Ack}
use Rattle.timer.specs.declared.Entry.{Entry}

-- how many expiries a timer may count before one is a failure; with none there is no maximum
abbrev pub Maximum : Type 0
Maximum = Option ℕ

-- where a timer stands among the six
abbrev pub place : Timer → ℕ
place T1Init = 0
place T1Cookie = 1
place T2Shutdown = 2
place T3RTX = 3
place Reconfig = 4
place Ack = 5

-- the six, in the order of `Timer::VALUES`
abbrev pub order : List Timer
order = T1Init ∷ T1Cookie ∷ T2Shutdown ∷ T3RTX ∷ Reconfig ∷ Ack ∷ []

-- the timer at a place of the order, which has six
abbrev pub timer_at : ℕ → Option Timer
timer_at i = cond (ltb i (length order)) (Some (get_or order i T1Init)) None

-- no deadline, nothing counted, nothing suppressed
abbrev pub idle_entry : Maximum → Entry
idle_entry m = record { deadline = None; retrans = 0; maximum = m; suppressed = false }

-- failure: a maximum exists, and the count is above it
abbrev pub fails_at : Maximum → ℕ → Bool
fails_at None count = false
fails_at (Some m) count = ltb m count
