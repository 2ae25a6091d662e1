-- The list of what has expired in flight as the code makes it, of any state at all: the message under way stands for those that are still
-- pending, and before the bound of the deadlines nothing is looked for. In a `Good` state whose numbers are kept it is the model's.
use Rattle.std.specs.Prelude.{◌≡◌, List, ◌++◌, ℕ, length, drop, ltb, Ok, Err, Some, None}
use Rattle.std.proofs.Math.Option.{Option, none, some}
use Rattle.limits.specs.Limits.{Room, clock_max}
use Rattle.limits.specs.Refusals.{done}
use Rattle.model.specs.declared.Stream.{Stream}
use Rattle.model.specs.Lists.{when◌then◌else◌}
use Rattle.model.specs.State.{Sender}
use Rattle.model.specs.Told.{told_listed}
use Rattle.model.specs.Rings.{Listing, listing, expired_inflight}
use Rattle.demands.specs.Words.{number_under_way}
use Rattle.payload_queue.specs.Queue.{sought_tsns}
use Rattle.outbound_queue.specs.declared.OutboundQueue.{OutboundQueue}
use Rattle.outbound_queue.specs.Outbound.{sender_of, Counted, Good}
use Rattle.outbound_queue.specs.Calls.{Becomes}
use Rattle.limits.specs.declared.Refusal.TheVariants.{BeyondLimit}
use Rattle.model.specs.Answers.{Listed}
use Rattle.payload_queue.specs.Queue.{Pending as Awaited}

-- the message that is named as still pending
abbrev pub named : Option ℕ → Awaited
named none = None
named (some n) = Some n

unfoldable pub lean_list : (now due room : ℕ) → Sender → Listing
lean_list now due n s =
    when ltb clock_max now then Err BeyondLimit else listing n (sought_tsns due now (named (number_under_way s.pending)) s.flight)

-- a listing as the call gives it: its answer, and the lent list, of which the cells behind the TSNs stay
pub record Lent : Type 0 where
  pub answer : Listed
  pub list : List ℕ

abbrev pub listed_in : (out : List ℕ) → Listing → Lent
listed_in out (Ok l) = record { answer = Ok (length l); list = l ++ drop (length l) out }
listed_in out (Err n) = record { answer = Err n; list = out }

-- of any state what the code lists, and of those that calls reach, where the numbers are kept (`kept`), the model's list
abbrev pub DoesKept : {A : Type 0} → (kept : Type 0) → Room → Sender → (got lean said : A) → Type 0
DoesKept kept room s got lean said = (got ≡ lean) × (kept → Good room s → got ≡ said)

-- so of a list: `out` is lent, and `out'` are its cells then
abbrev pub Lists : (kept : Type 0) → Room → (now due : ℕ) → Sender → (out out' : List ℕ) → Listed → Type 0
Lists kept room now due s out out' answer =
    DoesKept kept room s (record { answer = answer; list = out' }) (listed_in out (lean_list now due (length out) s)) (listed_in out (expired_inflight now (length out) s))

-- the list is told, and the sender stays; a refused call leaves the queue as it was
abbrev pub Finds : (now : ℕ) → OutboundQueue → List ℕ → (out out' : List ℕ) → OutboundQueue → Listed → Type 0
Finds now q ws out out' q' answer =
    ((room : Room) (ts : List Stream) → Lists (Counted q ws) room now q.inflight.due (sender_of ts q ws) out out' answer)
    × Becomes (λ s. s) q ws q' ws × (((told_listed answer).number ≡ done → ⊥) → q' ≡ q)
