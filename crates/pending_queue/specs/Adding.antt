-- A message's fragments have joined a ring: the queue then.
use Rattle.std.specs.Prelude.{◌≡◌, refl, ℕ, ◌+◌, ◌%◌, ◌^◌, Bool, true, false, List, Some, None, Option as Maybe}
use Rattle.std.specs.Option.{unwrap_or, is_some}
use Rattle.std.proofs.Common.{sym, ap, subst, ◌∙◌, arith}
use Rattle.model.specs.declared.Message.{Message}
use Rattle.model.specs.Lists.{when◌then◌else◌}
use Rattle.cells.specs.Slots.{room_of}
use Rattle.ring.specs.declared.Ring.{Ring}
use Rattle.ring.specs.Held.{held}
use Rattle.pending_queue.specs.declared.PendingQueue.{PendingQueue}
use Rattle.pending_queue.specs.Fragments.{Adds, Brings, bytes_of, fits}

-- the ring with a message's fragments, the bytes that they bring, and whether there was room
pub record Added : Type 0 where
  pub ring : Ring
  pub bytes : ℕ
  pub done : Bool

-- the queue of which one ring and the bytes are others
abbrev pub with_ring : (unordered : Bool) → Ring → (bytes : ℕ) → PendingQueue → PendingQueue
with_ring u g n q =
    record { unordered = when u then g else q.unordered; ordered = when u then q.ordered else g; bytes = n; selected = q.selected; unordered_is_selected = q.unordered_is_selected }

-- the queue whose ring has them
abbrev pub with_added : (unordered : Bool) → Added → PendingQueue → PendingQueue
with_added u d q = with_ring u d.ring ((q.bytes + d.bytes) % 2 ^ 64) q

-- the ring of a queue
abbrev pub ring_of : (unordered : Bool) → PendingQueue → Ring
ring_of u q = when u then q.unordered else q.ordered

-- what was added to the queue `q`, which is `q'` then
abbrev pub added_in : Message → (maximum length : ℕ) → PendingQueue → (done : Bool) → Added
added_in x m n q' done = record { ring = ring_of x.unordered q'; bytes = when done then bytes_of n m else 0; done = done }

-- they join the ring of the message, all or none, and the other stays; `ws` and `vs` are its words before and then
abbrev pub Joins : Message → (maximum offset length : ℕ) → PendingQueue → (ws : List ℕ) → PendingQueue → (vs : List ℕ) → Bool → Type 0
Joins x m o n q ws q' vs done =
    let d = added_in x m n q' done in
    (q' ≡ with_added x.unordered d q) × Adds (room_of ws) x m o n (held (ring_of x.unordered q) ws) (held d.ring vs) d.bytes d.done

-- ---- by the answer that has the bytes: `q'` has the ring, and its bytes are those that were

abbrev pub Half : (lane : Bool) → Message → (maximum offset length : ℕ) → PendingQueue → (ws : List ℕ) → PendingQueue → (vs : List ℕ) → Maybe ℕ → Type 0
Half lane x m o n q ws q' vs answer =
    (q' ≡ with_ring lane (ring_of lane q') q.bytes q) × Brings (room_of ws) x m o n (held (ring_of lane q) ws) (held (ring_of lane q') vs) answer

module _ (x : Message) (m o n : ℕ) (q : PendingQueue) (ws : List ℕ) where
  -- one of the two rings is lent
  pub half : (lane : Bool) (g : Ring) (w : List ℕ) (a : Maybe ℕ) {q' : PendingQueue} {vs : List ℕ} {b : Maybe ℕ} → x.unordered ≡ lane → q' ≡ with_ring lane g q.bytes q → vs ≡ w → b ≡ a
      → Brings (room_of ws) x m o n (held (ring_of lane q) ws) (held g w) a → Half x.unordered x m o n q ws q' vs b
  half lane g w a {q'} {vs} {b} e f h k z =
      subst (λ (t : Bool). Half t x m o n q ws q' vs b) (sym e)
      (subst (λ (y : PendingQueue). Half lane x m o n q ws y vs b) (sym f)
      (subst (λ (y : List ℕ). Half lane x m o n q ws (with_ring lane g q.bytes q) y b) (sym h)
      (subst (λ (y : Maybe ℕ). Half lane x m o n q ws (with_ring lane g q.bytes q) w y) (sym k) (by lane z))))
    where
      by : (t : Bool) → Brings (room_of ws) x m o n (held (ring_of t q) ws) (held g w) a → Half t x m o n q ws (with_ring t g q.bytes q) w a
      by true y = (refl, y)
      by false y = (refl, y)

  none_told : (t : Bool) (v : ℕ) → None ≡ (when t then Some v else None) → false ≡ t
  none_told true v e = let z : ◌≡◌ {A = ℕ} 0 1 = cc in absurd (omega arith)
  none_told false v e = refl

  some_told : (t : Bool) (v b : ℕ) → Some b ≡ (when t then Some v else None) → (true ≡ t) × (b ≡ v)
  some_told true v b e = (refl, cc)
  some_told false v b e = let z : ◌≡◌ {A = ℕ} 0 1 = cc in absurd (omega arith)

  abbrev more : ℕ → PendingQueue → PendingQueue
  more b p = record { unordered = p.unordered; ordered = p.ordered; bytes = (p.bytes + b) % 2 ^ 64; selected = p.selected; unordered_is_selected = p.unordered_is_selected }

  joins_some : {q' : PendingQueue} (vs : List ℕ) (answer : Maybe ℕ) → Half x.unordered x m o n q ws q' vs answer → Joins x m o n q ws (more (unwrap_or answer 0) q') vs (is_some answer)
  joins_some vs None h =
      let t = fits (room_of ws) m o n (held (ring_of x.unordered q) ws) in
      (ap (more 0) h.0, (h.1.0, none_told t (bytes_of n m) h.1.1, h.1.2))
  joins_some {q'} vs (Some b) h =
      let t = fits (room_of ws) m o n (held (ring_of x.unordered q) ws) in
      let k = some_told t (bytes_of n m) b h.1.1 in
      (ap (more b) h.0 ∙ ap (λ (y : ℕ). with_ring x.unordered (ring_of x.unordered q') ((q.bytes + y) % 2 ^ 64) q) k.1, (h.1.0, k.0, omega (arith, h.1.2, k.1)))

  -- the bytes are counted
  pub joins_told : {q' : PendingQueue} (vs : List ℕ) (answer : Maybe ℕ) {b : ℕ} {done : Bool} → b ≡ unwrap_or answer 0 → done ≡ is_some answer → Half x.unordered x m o n q ws q' vs answer → Joins x m o n q ws (more b q') vs done
  joins_told {q'} vs answer {done = done} e f h =
      subst (λ (k : ℕ). Joins x m o n q ws (more k q') vs done) (sym e) (subst (λ (t : Bool). Joins x m o n q ws (more (unwrap_or answer 0) q') vs t) (sym f) (joins_some vs answer h))
