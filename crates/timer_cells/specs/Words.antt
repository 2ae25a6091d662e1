-- The table that words mean: three words to a timer, in the order of `Timer::VALUES`. Every words mean a table.
use Rattle.std.specs.Prelude.{◌≡◌, Bool, true, false, List, [], ◌∷◌, ℕ, ◌/◌, ◌%◌, Some, None}
pub use Rattle.limits.specs.Flags.{is_set}
pub use Rattle.limits.specs.Moments.{moment_of}
use Rattle.limits.specs.Moments.{Moment}
use Rattle.timer.specs.Entries.{Maximum}
use Rattle.timer.specs.declared.Entry.{Entry}
use Rattle.timer.specs.declared.TimerTable.{TimerTable}
use Rattle.timer_cells.specs.declared.Head.{Head}

-- a maximum of retransmissions, where there is one
abbrev pub maximum_of : (is : Bool) → (most : ℕ) → Maximum
maximum_of true m = Some m
maximum_of false m = None

-- one timer: its deadline, its maximum, and its marks: the count below 2^32, and a byte each for a deadline, a maximum, a suppression
abbrev pub entry_in : (deadline maximum marks : ℕ) → Entry
entry_in d m w =
    record { deadline = moment_of (is_set (w / 4294967296 % 256)) d; retrans = w % 4294967296; maximum = maximum_of (is_set (w / 4294967296 / 256 % 256)) m; suppressed = is_set (w / 4294967296 / 256 / 256 % 256) }

-- the timers, one after the other
abbrev pub entries_in : List ℕ → List Entry
entries_in [] = []
entries_in (d ∷ []) = []
entries_in (d ∷ m ∷ []) = []
entries_in (d ∷ m ∷ w ∷ ws) = entry_in d m w ∷ entries_in ws

-- with the ceiling of the back-off, which is kept beside the words
abbrev pub table_with : Head → List Entry → TimerTable
table_with h es = record { entries = es; rto_max = h.rto_max }

-- the table of a head and its words
abbrev pub table_of : Head → List ℕ → TimerTable
table_of h ws = table_with h (entries_in ws)

-- a timer with another deadline, and otherwise as it was
abbrev pub with_time : Entry → Moment → Entry
with_time e d = record { deadline = d; retrans = e.retrans; maximum = e.maximum; suppressed = e.suppressed }

-- marks v instead of w: the timer becomes f of what it was, whatever its deadline d and its maximum m are
abbrev pub Marked : (f : (d : ℕ) → Entry → Entry) → (w v : ℕ) → Type 0
Marked f w v = (d m : ℕ) → entry_in d m v ≡ f d (entry_in d m w)
