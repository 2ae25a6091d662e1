-- What a queue of pending chunks means, and the kept sum of its bytes.
use Rattle.std.specs.Prelude.{◌≡◌, ℕ, ◌+◌, ◌%◌, ◌^◌, ◌<◌, Bool, true, false, List, [], map, ◌==◌, refl}
use Rattle.std.proofs.Common.{arith}
use Rattle.limits.specs.Flags.{is_set}
use Rattle.model.specs.declared.Chunk.{Chunk}
use Rattle.model.specs.State.{UnderWay, Idle, Sending, Pending, lane_of}
use Rattle.model.specs.Lists.{when◌then◌else◌}
use Rattle.model.specs.Rings.{with_message, renewed, ssn_before, lowered, bytes}
use Rattle.ring.specs.declared.Ring.{Ring}
use Rattle.ring.specs.Held.{held}
use Rattle.ring.specs.Sums.{bytes_map, held_bytes}
use Rattle.pending_queue.specs.declared.PendingQueue.{PendingQueue}

-- the two flags are the model's `under_way`; the second means nothing without the first
abbrev pub under_way_of : (selected unorderedSelected : Bool) → UnderWay
under_way_of true u = Sending (lane_of u)
under_way_of false u = Idle

-- what is pending, by the numbers and the cells of the two rings
abbrev pub pending_in : PendingQueue → (unordered ordered : List ℕ) → Pending
pending_in q u o =
    record { under_way = under_way_of (is_set q.selected) (is_set q.unordered_is_selected); unordered = held q.unordered u; ordered = held q.ordered o }

-- nothing is, as in a fresh sender
abbrev pub no_pending : Pending
no_pending = record { under_way = Idle; unordered = []; ordered = [] }

-- the bytes of both rings
abbrev pub bytes_in : Pending → ℕ
bytes_in p = bytes p.unordered + bytes p.ordered

-- the counter is their sum
abbrev pub Counted : PendingQueue → (unordered ordered : List ℕ) → Type 0
Counted q u o = q.bytes ≡ bytes_in (pending_in q u o)

-- what is pending is the same if its parts are
pub both : {p q : Pending} → p.under_way ≡ q.under_way → p.unordered ≡ q.unordered → p.ordered ≡ q.ordered → p ≡ q
both w u o = λ i. record { under_way = w i; unordered = u i; ordered = o i }

-- ---- sums of bytes

pub lowered_bytes : (stream : ℕ) (l : List Chunk) → bytes (map (lowered stream) l) ≡ bytes l
lowered_bytes stream = bytes_map (lowered stream) (λ (c : Chunk). by c (c.message.stream == stream))
  where
    by : (c : Chunk) (b : Bool) → (when b then with_message (renewed (ssn_before c.message.ssn) c.message.deadline c.message) c else c).length ≡ c.length
    by c true = refl
    by c false = refl

-- ---- the counter after a call: `k` is what it is then, and `d` what is added or taken

pub counted_more : (q : PendingQueue) (u o : List ℕ) (a b : Ring) (v w : List ℕ) {k : ℕ} (d : ℕ) → bytes (held a v) + bytes (held b w) ≡ bytes_in (pending_in q u o) + d → k ≡ (q.bytes + d) % 2 ^ 64 → Counted q u o → k ≡ bytes (held a v) + bytes (held b w)
counted_more q u o a b v w d e r h = omega (arith, held_bytes a v, held_bytes b w)

pub counted_less : (q : PendingQueue) (u o : List ℕ) {k n : ℕ} (d : ℕ) → n + d ≡ bytes_in (pending_in q u o) → k < 18446744073709551616 → (k + d) % 2 ^ 64 ≡ q.bytes → Counted q u o → k ≡ n
counted_less q u o d e l r h = omega (arith, held_bytes q.unordered u, held_bytes q.ordered o)
