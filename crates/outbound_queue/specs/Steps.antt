-- What has become of the sender after each step: `r` are the rings of the cells then, and a part that came back is a variable.
use Rattle.std.specs.Prelude.{◌≡◌, refl, Bool, true, false, ◌&&◌, List, [], ◌∷◌, map, ℕ, ◌+◌, ◌<◌, eqb}
use Rattle.std.proofs.Common.{sym, ap, subst, ◌∙◌, arith, eqb-true, eq-eqb, ne_eqb}
use Rattle.std.proofs.lemmas.Bool.{lt-leb}
use Rattle.model.specs.declared.Chunk.{Chunk}
use Rattle.model.specs.State.{Lane, Unordered, Ordered, Sender, Pending, at, lane_of, in_rings, with_pending, with_numbers, with_ring}
use Rattle.model.specs.declared.Message.{Message}
use Rattle.model.specs.declared.Stream.{Stream}
use Rattle.model.specs.Lists.{when◌then◌else◌}
use Rattle.model.specs.Rings.{bytes, started}
use Rattle.demands.specs.Words.{Each}
use Rattle.rows.specs.Walks.{all}
use Rattle.cells.specs.Slots.{room_of}
use Rattle.ring.specs.Held.{held}
use Rattle.pending_queue.specs.declared.PendingQueue.{PendingQueue}
use Rattle.pending_queue.specs.Queue.{both, counted_more}
use Rattle.pending_queue.specs.Fragments.{Adds, with_fragments, added, fits}
use Rattle.pending_queue.specs.Adding.{Added, with_added, added_in, ring_of, Joins as Joined}
use Rattle.pending_queue.specs.Lifetimes.{unseen, started_end, started_bytes}
use Rattle.outbound_queue.specs.declared.OutboundQueue.{OutboundQueue}
use Rattle.outbound_queue.specs.Outbound.{Rings, rings_in, ring_room, remade, waiting, sender_in, sender_of, CountedIn, sender_by, counted_by_lem}
use Rattle.outbound_queue.specs.Calls.{waiting_in, Joins}

-- every message is seen, and this is pending
abbrev pub seen_with : Pending → Sender → Sender
seen_with p s = with_numbers (record { next = s.numbers.next; unstarted = s.numbers.next }) (with_pending p s)

-- lifetimes are started from the back of a ring to the first message that was seen; none where every message was seen
abbrev pub new_end : (now unstarted next : ℕ) → List Chunk → List Chunk
new_end now k n l = when eqb k n then l else started_end now k l

-- so in both rings
abbrev pub ends_started : (now : ℕ) → Sender → Sender
ends_started now s = seen_with (in_rings (new_end now s.numbers.unstarted s.numbers.next) s.pending) s

module _ (now k n : ℕ) where
  none_new : k ≡ n → (l : List Chunk) → l ≡ new_end now k n l
  none_new e l = sym (ap (λ (b : Bool). when b then l else started_end now k l) (eq-eqb k n e))

  some_new : (k ≡ n → ⊥) → (l : List Chunk) → started_end now k l ≡ new_end now k n l
  some_new d l = sym (ap (λ (b : Bool). when b then l else started_end now k l) (ne_eqb k n d))

  none_unseen : (l : List Chunk) → Each (λ c. c.message.number < k) l → l ≡ started_end now k l
  none_unseen [] h = refl
  none_unseen (c ∷ l) h =
      ap (λ (x : List Chunk). c ∷ x) (none_unseen l h.1)
      ∙ sym (ap (λ (b : Bool). when b && all (unseen k) l then map (started now k) (c ∷ l) else (c ∷ started_end now k l)) (lt-leb k c.message.number h.0))

  -- where each message is numbered below the next, the test changes nothing
  new_end_lem : (l : List Chunk) → Each (λ c. c.message.number < n) l → new_end now k n l ≡ started_end now k l
  new_end_lem l h = by (eqb k n) refl
    where
      by : (b : Bool) → eqb k n ≡ b → (when b then l else started_end now k l) ≡ started_end now k l
      by true e = none_unseen l (subst (λ (i : ℕ). Each (λ c. c.message.number < i) l) (sym (eqb-true k n e)) h)
      by false e = refl

  pub new_ends : (p : Pending) → ((l : Lane) → Each (λ c. c.message.number < n) (at l p)) → in_rings (new_end now k n) p ≡ in_rings (started_end now k) p
  new_ends p h = both refl (new_end_lem p.unordered (h Unordered)) (new_end_lem p.ordered (h Ordered))

-- every message was seen: the sender stays
pub all_seen_lem : (now : ℕ) (q : OutboundQueue) (r : Rings) → q.next_unstarted_message_id ≡ q.next_message_id → (ts : List Stream) → sender_in ts q r ≡ ends_started now (sender_in ts q r)
all_seen_lem now q r e ts =
    let s = sender_in ts q r in
    let stays = none_new now q.next_unstarted_message_id q.next_message_id e in
    ap (λ (n : ℕ). with_numbers (record { next = s.numbers.next; unstarted = n }) s) e
    ∙ ap (λ (p : Pending). seen_with p s) (both refl (stays s.pending.unordered) (stays s.pending.ordered))

-- it was not: one ring after the other came back
module _ (now : ℕ) (q : OutboundQueue) (r : Rings) (u o : List ℕ)
    (a : held q.pending.unordered u ≡ started_end now q.next_unstarted_message_id (held q.pending.unordered r.unordered))
    (b : held q.pending.ordered o ≡ started_end now q.next_unstarted_message_id (held q.pending.ordered r.ordered)) where
  abbrev seen : OutboundQueue
  seen = record { pending = q.pending; inflight = q.inflight; next_message_id = q.next_message_id; next_unstarted_message_id = q.next_message_id }

  abbrev after : Rings
  after = record { unordered = u; ordered = o; flight = r.flight }

  pub started_rings : (q.next_unstarted_message_id ≡ q.next_message_id → ⊥) → (ts : List Stream) → sender_in ts seen after ≡ ends_started now (sender_in ts q r)
  started_rings d ts =
      let starts = some_new now q.next_unstarted_message_id q.next_message_id d in
      ap (λ (p : Pending). seen_with p (sender_in ts q r)) (both refl (a ∙ starts (held q.pending.unordered r.unordered)) (b ∙ starts (held q.pending.ordered r.ordered)))

  pub started_counted : CountedIn q r → CountedIn seen after
  started_counted h =
      let k = q.next_unstarted_message_id in
      let e : q.pending.bytes ≡ bytes (held q.pending.unordered u) + bytes (held q.pending.ordered o) = omega (arith, h.0, ap bytes a, ap bytes b, started_bytes now k (held q.pending.unordered r.unordered), started_bytes now k (held q.pending.ordered r.ordered)) in
      (e, h.1)

-- the ordered ring with a gap closed
pub lowered_ring : (ts : List Stream) (q : OutboundQueue) (r : Rings) (o : List ℕ) {l : List Chunk} → held q.pending.ordered o ≡ l
    → let s = sender_in ts q r in
    sender_in ts q (record { unordered = r.unordered; ordered = o; flight = r.flight }) ≡ with_pending (with_ring Ordered s.pending.under_way l s.pending) s
lowered_ring ts q r o e = let s = sender_in ts q r in ap (λ (x : List Chunk). with_pending (with_ring Ordered s.pending.under_way x s.pending) s) e

-- ---- fragments join one of the two rings, `lane` says which: `d` is what the ring's own call gave, at the room `n`, which is the rings', and `w`
-- are the ring's words then

-- the rings of which that one has other words
abbrev pub relent : (unordered : Bool) → List ℕ → Rings → Rings
relent b w r = record { unordered = when b then w else r.unordered; ordered = when b then r.ordered else w; flight = r.flight }

module _ (q : OutboundQueue) (x : Message) (m off l : ℕ) (ws vs w : List ℕ) {n : ℕ} (same : n ≡ ring_room ws) (d : Added) (lane : Bool) (back : rings_in vs ≡ relent lane w (rings_in ws)) {p : PendingQueue} (e : x.unordered ≡ lane) (f : p ≡ with_added lane d q.pending) where
  -- what was pending
  abbrev waited : Pending
  waited = waiting_in q ws

  -- the queue then, by what is pending
  abbrev anew : PendingQueue → OutboundQueue
  anew y = remade y q.inflight q

  as_ring : (b : Bool) → waiting (anew (with_added b d q.pending)) (relent b w (rings_in ws)) ≡ with_ring (lane_of b) waited.under_way (held d.ring w) waited
  as_ring true = refl
  as_ring false = refl

  joined : held d.ring w ≡ added n x m off l (at (lane_of lane) waited) → waiting (anew p) (relent lane w (rings_in ws)) ≡ with_fragments (ring_room ws) x m off l waited
  joined a =
      ap (λ (y : PendingQueue). waiting (anew y) (relent lane w (rings_in ws))) f ∙ as_ring lane
      ∙ ap (λ (y : List Chunk). with_ring (lane_of lane) waited.under_way y waited) (a ∙ ap (λ (k : ℕ). added k x m off l (at (lane_of lane) waited)) same)
      ∙ ap (λ (t : Bool). with_ring (lane_of t) waited.under_way (added (ring_room ws) x m off l (at (lane_of t) waited)) waited) (sym e)

  summed : (b : Bool) → bytes (held d.ring w) ≡ bytes (at (lane_of b) waited) + d.bytes → CountedIn q (rings_in ws) → CountedIn (anew (with_added b d q.pending)) (relent b w (rings_in ws))
  summed true h k =
      (counted_more q.pending (rings_in ws).unordered (rings_in ws).ordered d.ring q.pending.ordered w (rings_in ws).ordered d.bytes (omega (arith, h)) refl k.0, k.1)
  summed false h k =
      (counted_more q.pending (rings_in ws).unordered (rings_in ws).ordered q.pending.unordered d.ring (rings_in ws).unordered w d.bytes (omega (arith, h)) refl k.0, k.1)

  pub joins : Adds n x m off l (at (lane_of lane) waited) (held d.ring w) d.bytes d.done → Joins x m off l q ws (anew p) vs d.done
  joins g = (
    (λ ts. sender_by ts (anew p) vs back ∙ ap (λ (y : Pending). with_pending y (sender_of ts q ws)) (joined g.0), λ k. counted_by_lem (anew p) vs back (subst (λ (y : PendingQueue). CountedIn (anew y) (relent lane w (rings_in ws))) (sym f) (summed lane g.2 k))),
    g.1 ∙ ap (λ (k : ℕ). fits k m off l (at (lane_of lane) waited)) same ∙ ap (λ (t : Bool). fits (ring_room ws) m off l (at (lane_of t) waited)) (sym e),
  )

-- by what the ring's queue promises: `v` are the words of the ring before
module _ (q : OutboundQueue) (x : Message) (m off l : ℕ) (ws vs v w : List ℕ) (same : room_of v ≡ ring_room ws) (lane : Bool) (lent : held (ring_of lane q.pending) v ≡ at (lane_of lane) (waiting_in q ws)) (back : rings_in vs ≡ relent lane w (rings_in ws)) (e : x.unordered ≡ lane) where
  pub joins_told : {p : PendingQueue} {done : Bool} → Joined x m off l q.pending v p w done → Joins x m off l q ws (remade p q.inflight q) vs done
  joins_told {p} {done} j =
      let d = added_in x m l p done in
      let z = subst (λ (t : Bool). (p ≡ with_added t d q.pending) × Adds (room_of v) x m off l (held (ring_of t q.pending) v) (held d.ring w) d.bytes d.done) e j in
      joins q x m off l ws vs w same d lane back e z.0 (subst (λ (k : List Chunk). Adds (room_of v) x m off l k (held d.ring w) d.bytes d.done) lent z.1)
