-- What each call says, of n words: the table that they mean afterwards is the model's, the reply is the model's answer, the words of the other
-- timers stay, and a refusal leaves every word. The model's calls are those of `timer`.
use Rattle.std.specs.Prelude.{◌≡◌, ◌≢◌, Bool, cond, List, ℕ, ◌*◌, ◌/◌, ◌<◌, ◌≤◌, eqb, get_or, Option, Some, None, Result, Ok, Err}
use Rattle.limits.specs.Refusals.{done, beyond_limit, refusal_number as number}
use Rattle.limits.specs.declared.Refusal.{Refusal}
use Rattle.limits.specs.declared.Refusal.TheVariants.{BeyondLimit}
use Rattle.limits.specs.Told.{Told, refusing, tells_moment, value_at, flag_at, given}
use Rattle.limits.specs.Moments.{Moment}
use Rattle.timer.specs.declared.Timer.{Timer}
use Rattle.timer.specs.Entries.{timer_at}
use Rattle.timer.specs.declared.TimerTable.{TimerTable}
use Rattle.timer.specs.declared.Expiry.{Expiry}
use Rattle.timer.specs.Told.{told_expiry}
use Rattle.timer.specs.Calls.{Changed, number_of, done as changed, refused, denied, new_of, set_of, get_of, start_of, restart_if_stale_of, stop_of, reset_retrans_of, suppress_error_count_of, is_expired_of, next_timeout_of}
pub use Rattle.timer.specs.Calls.{answer_of, left_of}
use Rattle.timer_cells.specs.Words.{moment_of, maximum_of, entry_in, table_of}
use Rattle.timer_cells.specs.declared.Head.{Head}
use Rattle.timer_cells.specs.declared.Due.{Due}
use Rattle.timer_cells.specs.declared.Expired.{Expired}

-- ---- replies

-- 01's number, and a moment where there is one
abbrev pub due_in : Told → Due
due_in t = record { value = value_at 0 t; refusal = t.number; yes = given t }

-- a deadline, if there is one
abbrev pub due_of : Moment → Due
due_of m = due_in (tells_moment m)

-- a question that is refused
abbrev pub no_due : Due
no_due = due_in (refusing beyond_limit)

-- what is told of a question: a deadline, or 01's number for why there is no answer
abbrev pub due_told : Result Moment Refusal → Due
due_told (Ok m) = due_of m
due_told (Err r) = due_in (refusing (number r))

-- 01's number, and expired, failure, count by their places
abbrev pub expired_in : Told → Expired
expired_in t = record { count = value_at 2 t; refusal = t.number; expired = flag_at 0 t; failure = flag_at 1 t }

-- what an expiry tells, or 01's number for why it tells nothing
abbrev pub expired_of : Result Expiry Refusal → Expired
expired_of a = expired_in (told_expiry a)

-- ---- a call on one timer

-- six timers have 18 words; any other number of them holds none
abbrev pub timer_in : (n timer : ℕ) → Option Timer
timer_in n timer = cond (eqb n 18) (timer_at timer) None

-- where the words of a timer begin: there are 18, and it is one of the six
pub record Stands (n timer at : ℕ) : Type 0 where
  pub size : n ≡ 18
  pub below : timer < 6
  pub first : at ≡ timer * 3

-- there are other words, or there is no such timer
pub record Missing (n timer : ℕ) (r : Refusal) : Type 0 where
  pub beyond : r ≡ BeyondLimit
  pub none : timer_in n timer ≡ None

-- what a call does on a timer, or else where there is none
abbrev pub on_timer : {A : Type 0} → Option Timer → (Timer → A) → A → A
on_timer (Some k) call none = call k
on_timer None call none = none

-- a call on the timer at a place has this answer and leaves this table; the words of the other timers stay, and where it is refused every word
pub record Does {A : Type 0} (timer : ℕ) (answer : A) (after : TimerTable) (refusal : ℕ) (d : Head) (ws : List ℕ) (d' : Head) (ws' : List ℕ) (y : A) : Type 0 where
  pub said : y ≡ answer
  pub head : d' ≡ d
  pub table : table_of d' ws' ≡ after
  pub others : (i : ℕ) → i / 3 ≢ timer → get_or ws' i 0 ≡ get_or ws i 0
  pub kept : 1 ≤ refusal → ws' ≡ ws

-- a call of the model that changes one timer, or is refused
abbrev pub Changes : (n timer : ℕ) → (TimerTable → Timer → Changed) → Head → List ℕ → Head → List ℕ → (y : ℕ) → Type 0
Changes n timer call d ws d' ws' y =
    let c = on_timer (timer_in n timer) (call (table_of d ws)) (refused BeyondLimit (table_of d ws)) in
    Does timer (number_of c.answer) c.table y d ws d' ws' y

-- ---- the calls

-- setting changes only the deadline
abbrev pub Sets : (n timer : ℕ) → (is : Bool) → (time : ℕ) → Head → List ℕ → Head → List ℕ → ℕ → Type 0
Sets n timer is time = Changes n timer (λ t k. set_of t k (moment_of is time))

-- a start: the deadline is the clock and the wait, backed off by the count
abbrev pub Starts : (n timer clock interval : ℕ) → Head → List ℕ → Head → List ℕ → ℕ → Type 0
Starts n timer clock interval = Changes n timer (λ t k. start_of t k clock interval)

-- restart-if-stale: a start, where there is no deadline at or after the clock
abbrev pub Restarts : (n timer clock interval : ℕ) → Head → List ℕ → Head → List ℕ → ℕ → Type 0
Restarts n timer clock interval = Changes n timer (λ t k. restart_if_stale_of t k clock interval)

-- stop clears deadline, count and suppression
abbrev pub Stops : (n timer : ℕ) → Head → List ℕ → Head → List ℕ → ℕ → Type 0
Stops n timer = Changes n timer (λ t k. changed (stop_of t k))

-- reset clears only the count
abbrev pub Resets : (n timer : ℕ) → Head → List ℕ → Head → List ℕ → ℕ → Type 0
Resets n timer = Changes n timer (λ t k. changed (reset_retrans_of t k))

-- the next expiry will count nothing
abbrev pub Suppresses : (n timer : ℕ) → Head → List ℕ → Head → List ℕ → ℕ → Type 0
Suppresses n timer = Changes n timer (λ t k. changed (suppress_error_count_of t k))

-- whether a timer is expired: asking counts
abbrev pub Checks : (n timer clock : ℕ) → Head → List ℕ → Head → List ℕ → Expired → Type 0
Checks n timer clock d ws d' ws' y =
    let c = on_timer (timer_in n timer) (λ k. is_expired_of (table_of d ws) k clock) (denied BeyondLimit (table_of d ws)) in
    Does timer (expired_of c.answer) c.table y.refusal d ws d' ws' y

-- the deadline of a timer
abbrev pub Gets : (n timer : ℕ) → Head → List ℕ → Due → Type 0
Gets n timer d ws y = y ≡ on_timer (timer_in n timer) (λ k. due_of (get_of (table_of d ws) k)) no_due

-- the smallest deadline of the six
abbrev pub NextTimeout : (n : ℕ) → Head → List ℕ → Due → Type 0
NextTimeout n d ws y = y ≡ cond (eqb n 18) (due_of (next_timeout_of (table_of d ws))) no_due

-- six new timers: the number is the model's, the table the model's where they are made, and a refusal leaves the head and every word
pub record Makes (c : Changed) (d : Head) (ws : List ℕ) (d' : Head) (ws' : List ℕ) (y : ℕ) : Type 0 where
  pub said : y ≡ number_of c.answer
  pub table : y ≡ done → table_of d' ws' ≡ c.table
  pub head : 1 ≤ y → d' ≡ d
  pub kept : 1 ≤ y → ws' ≡ ws

-- creation, with the maxima of the init and the data retransmissions
abbrev pub Creates : (n : ℕ) → (hasInit : Bool) → (init : ℕ) → (hasData : Bool) → (most rtoMax : ℕ) → Head → List ℕ → Head → List ℕ → ℕ → Type 0
Creates n hasInit init hasData most rtoMax d ws =
    Makes (cond (eqb n 18) (new_of (maximum_of hasInit init) (maximum_of hasData most) rtoMax) (refused BeyondLimit (table_of d ws))) d ws

-- ---- the expiry of one timer

-- what it answers (`answer_of`) and what it leaves (`left_of`), of the timer in three words, whose marks become v; a refusal leaves them
pub record Expires (d m w clock v : ℕ) (y : Expired) : Type 0 where
  pub said : y ≡ expired_of (answer_of (entry_in d m w) clock)
  pub left : entry_in d m v ≡ left_of (entry_in d m w) clock
  pub kept : 1 ≤ y.refusal → v ≡ w
