-- What the queue's numbers and cells mean, and what each call does to that flight, in the model's words.
use Rattle.std.specs.Prelude.{◌≡◌, ℕ, ◌+◌, ◌%◌, ◌≤◌, min, Bool, false, not, ◌&&◌, ◌||◌, List, [], ◌∷◌, ◌++◌, length, drop, ◌==◌, ◌≢◌, nat_lt, Some, None, Ok, Err, Option as Maybe}
use Rattle.std.specs.Option.{unwrap_or}
use Rattle.std.proofs.Math.Option.{Option, none, some}
use Rattle.limits.specs.Limits.{tsns}
use Rattle.limits.specs.Refusals.{done}
use Rattle.limits.specs.Moments.{passed, Moment}
use Rattle.model.specs.declared.Chunk.{Chunk}
use Rattle.model.specs.Lists.{when◌then◌else◌, adjust}
use Rattle.model.specs.State.{Flight, place}
use Rattle.model.specs.Told.{told_listed}
use Rattle.model.specs.Rings.{bytes, tsns_of}
use Rattle.model.specs.Flight.{acknowledged}
use Rattle.rows.specs.Joins.{pushed}
use Rattle.ring.specs.Held.{held}
use Rattle.payload_queue.specs.declared.PayloadQueue.{PayloadQueue}
use Rattle.limits.specs.declared.Refusal.TheVariants.{ListShort}
use Rattle.model.specs.Answers.{Found, Listed}

-- what is in flight
abbrev pub flight_of : PayloadQueue → List ℕ → Flight
flight_of q ws = record { oldest = q.oldest; entries = held q.ring ws }

-- ---- the least deadline of the entries that are not abandoned

-- where there is none
abbrev pub never : ℕ
never = 18446744073709551615

-- that of a message
abbrev pub due_at : Moment → ℕ
due_at m = unwrap_or m never

-- that of an entry
unfoldable pub due_of : Chunk → ℕ
due_of c = when c.abandoned then never else due_at c.message.deadline

abbrev pub least_due : List Chunk → ℕ
least_due [] = never
least_due (c ∷ l) = min (due_of c) (least_due l)

-- ---- the numbers that are kept

-- the counter is the sum of the bytes in flight
abbrev pub Summed : PayloadQueue → List ℕ → Type 0
Summed q ws = q.bytes ≡ bytes (held q.ring ws)

-- no entry that is not abandoned has a deadline below the bound
abbrev pub Bounded : PayloadQueue → List ℕ → Type 0
Bounded q ws = q.due ≤ least_due (held q.ring ws)

-- the counter is the sum, and the bound is one
abbrev pub Counted : PayloadQueue → List ℕ → Type 0
Counted q ws = Summed q ws × Bounded q ws

-- the entries are others, the oldest TSN stays
abbrev pub changed : (List Chunk → List Chunk) → Flight → Flight
changed g f = record { oldest = f.oldest; entries = g f.entries }

-- a chunk behind the others, where there is room
abbrev pub filed : (room : ℕ) → Chunk → Flight → Flight
filed room c f = changed (λ l. pushed room l c) f

-- the entry of a TSN is acknowledged; of an unknown one nothing changes
abbrev pub acked : (tsn : ℕ) → Flight → Flight
acked t f = changed (adjust acknowledged (place t f)) f

-- the bytes that an entry holds, and 0 where there is none
abbrev pub held_in : Option Chunk → ℕ
held_in none = 0
held_in (some c) = c.length

-- ---- what a call promises, of every queue `q` and every cells `ws`; `q'` and `ws'` are those behind it. The counter stays the sum, and the bound one

-- the flight is changed
abbrev pub Becomes : (Flight → Flight) → PayloadQueue → List ℕ → PayloadQueue → List ℕ → Type 0
Becomes change q ws q' ws' = (flight_of q' ws' ≡ change (flight_of q ws)) × (Counted q ws → Counted q' ws')

-- and bytes of it are told
abbrev pub Tells : (Flight → Flight) → (Flight → ℕ) → PayloadQueue → List ℕ → PayloadQueue → List ℕ → (bytes : ℕ) → Type 0
Tells change said q ws q' ws' n = (flight_of q' ws' ≡ change (flight_of q ws)) × (n ≡ said (flight_of q ws)) × (Counted q ws → Counted q' ws')

-- ---- pop: what it leaves, and what it answers

pub record Pop : Type 0 where
  pub flight : Flight
  pub front : Found

abbrev pub outcome : PayloadQueue → List ℕ → Found → Pop
outcome q ws front = record { flight = flight_of q ws; front = front }

-- only the oldest is taken, as `popping` of the model says
abbrev pub popped_of : List Chunk → (tsn : ℕ) → Flight → Pop
popped_of [] t f = record { flight = f; front = None }
popped_of (c ∷ l) t f =
    when t == f.oldest then record { flight = record { oldest = (f.oldest + 1) % tsns; entries = l }; front = Some c }
    else record { flight = f; front = None }

abbrev pub popped : (tsn : ℕ) → Flight → Pop
popped t f = popped_of f.entries t f

-- only the oldest is taken, and the counter stays the sum, and the bound one
abbrev pub Pops : (tsn : ℕ) → PayloadQueue → List ℕ → PayloadQueue → Found → Type 0
Pops t q ws q' front = (outcome q' ws front ≡ popped t (flight_of q ws)) × (Counted q ws → Counted q' ws)

-- ---- expired: not abandoned, at or past its deadline, and unacknowledged or of the message that is still pending

-- the number of the message under way, if there is one
abbrev pub Pending : Type 0
Pending = Maybe ℕ

abbrev pub is_awaited : Pending → (number : ℕ) → Bool
is_awaited None n = false
is_awaited (Some m) n = n == m

unfoldable pub overdue_entry : (now : ℕ) → Pending → Chunk → Bool
overdue_entry now w c = not c.abandoned && (passed now c.message.deadline && (not c.acked || is_awaited w c.message.number))

-- the TSNs of such entries, oldest first
abbrev pub overdue_tsns : (now : ℕ) → Pending → Flight → List ℕ
overdue_tsns now w f = tsns_of (overdue_entry now w) f.oldest f.entries

-- the answer: refused where the lent list is too short
abbrev pub listed : (ts out : List ℕ) → Listed
listed ts out = when nat_lt (length out) (length ts) then Err ListShort else Ok (length ts)

-- the TSNs stand at the front where they fit, and the rest is as it was
abbrev pub written : (ts out : List ℕ) → List ℕ
written ts out = when nat_lt (length out) (length ts) then out else ts ++ drop (length ts) out

-- a list of TSNs is told: `out` is lent, and `out'` are its cells then
abbrev pub Lists : (ts out out' : List ℕ) → Listed → Type 0
Lists ts out out' answer = (answer ≡ listed ts out) × (out' ≡ written ts out)

-- TSNs are written into a lent list that has places for them: their number is told, they stand at the front, and the rest is as it was
abbrev pub Writes : (ts out out' : List ℕ) → (number : ℕ) → Type 0
Writes ts out out' n = (n ≡ length ts) × (out' ≡ ts ++ drop (length ts) out)

-- what is listed: before the bound nothing is looked for
abbrev pub sought_tsns : (due now : ℕ) → Pending → Flight → List ℕ
sought_tsns due now w f = when nat_lt now due then [] else overdue_tsns now w f

-- that list is told, and the flight stays; a refused call leaves the queue as it was
abbrev pub Finds : (now : ℕ) → Pending → PayloadQueue → List ℕ → (out out' : List ℕ) → PayloadQueue → Listed → Type 0
Finds now w q ws out out' q' answer =
    Lists (sought_tsns q.due now w (flight_of q ws)) out out' answer × Becomes (λ f. f) q ws q' ws
    × (((told_listed answer).number ≢ done) → q' ≡ q)
