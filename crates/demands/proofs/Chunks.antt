-- Every call keeps what holds of each chunk: pending ones are untouched, entries in flight were seen.
use Prim.Native.Nat.{ℕ, zero, suc, ◌+◌, ◌≤◌, ◌<◌}
use native.Mathlib.Nat.{le_refl}
use native.Mathlib.Omega.{arith}
use mathlib.Core.Path.{◌≡◌, refl, sym, ap, subst, ◌∙◌}
use mathlib.Core.Bool.{Bool, true, false, not, ◌&&◌, ◌||◌, true≢false, or-true}
use mathlib.Core.Option.{Option, some}
use mathlib.Core.List.{List, [], ◌∷◌, ◌++◌, map}
use lib.ListN.{length}
use lib.Dec.{eqb, leb}
use borrow.Author.Tests.{leb-true, leb-false, not-false, not-true, eqb-true}
use Rattle.limits.specs.Limits.{Room}
use Rattle.model.specs.declared.Chunk.{Chunk}
use Rattle.model.specs.State.{Lane, Unordered, Ordered, Sender, Pending, Numbers, Out, fresh, at, lane_of, in_rings, with_ring, with_pending, with_streams, is_of, place}
use Rattle.model.specs.declared.Message.{Message}
use Rattle.model.specs.declared.Stream.{Stream}
use Rattle.model.specs.Lists.{when◌then◌else◌}
use Rattle.model.specs.Streams.{find, put}
use Rattle.model.specs.Messages.{is_dcep, cut, message_of, pieces, number_after, written, accepted}
use Rattle.model.specs.Rings.{head, head_lane, with_message, renewed, ssn_before, has_lifetime, begun, started, lowered, with_lifetimes, sent_at, under_way_after, without, overdue, compacted, marked, given_up, terminator, abandoned, taken}
use Rattle.limits.specs.Moments.{passed, Moment}
use Rattle.model.specs.Flight.{acknowledged, to_retransmit, outstanding}
use Rattle.model.specs.Calls.{Call, Answer, step, run}
use Rattle.demands.specs.Words.{Each}
use Rattle.demands.specs.States.{present, Lifetime, NoDcepDeadline, IsOpen, PendingChunk, FlightEntry, Sized, Distinct}
use Rattle.demands.proofs.Basic.{if-case, bool_case, and_r}
use Rattle.demands.proofs.Each.{each_weaken, each_map, each_unmap, each_unkeep, each_adjust, each_get}
use Rattle.demands.proofs.Lists.{Lists, joined_parts, not_of, at_without, lists_head, lists_weaken, lists_map, lists_ring, lists_pushed, lists_taken, lists_without, lists_abandoned}
use Rattle.demands.proofs.Tables.{Table, table_put, table_drop, written_fits, found_is}
use Rattle.demands.proofs.Views.{Does, does, Accepts, streams_only, writes, starts, sends, abandons_it, expires_tail, expires_whole, acks, pops, marks}
use Rattle.demands.proofs.Pieces.{Piece, pieces_are}
use Rattle.std.specs.Prelude.{Some, None}

-- ---- one message

-- what a pending chunk and an entry say alike of their message
record Known (l : List Stream) (n : Numbers) (x : Message) : Type 0 where
  of_stream : IsOpen l x
  numbered : x.number < n.next
  lifetime : Lifetime n.unstarted x
  dcep : NoDcepDeadline x

pending_known : (l : List Stream) (n : Numbers) (k : Lane) (c : Chunk) → PendingChunk l n k c → Known l n c.message
pending_known l n k c h = record { of_stream = h.of_stream; numbered = h.numbered; lifetime = h.lifetime; dcep = h.dcep }

flight_known : (l : List Stream) (n : Numbers) (c : Chunk) → FlightEntry l n c → Known l n c.message
flight_known l n c h = record { of_stream = h.of_stream; numbered = h.numbered; lifetime = h.lifetime; dcep = h.dcep }

-- a pending chunk with another message, and an entry in another state
pending_anew : (l l' : List Stream) (n n' : Numbers) (k : Lane) (c : Chunk) (x : Message) → PendingChunk l n k c → Known l' n' x → x.unordered ≡ c.message.unordered
    → PendingChunk l' n' k (with_message x c)
pending_anew l l' n n' k c x h y e =
    record {
      of_stream = y.of_stream;
      numbered = y.numbered;
      lifetime = y.lifetime;
      dcep = y.dcep;
      ring = ap lane_of e ∙ h.ring;
      full = h.full;
      unsent = h.unsent;
      nsent = h.nsent;
      acked = h.acked;
      abandoned = h.abandoned;
      retransmit = h.retransmit;
    }

flight_anew : (l l' : List Stream) (n n' : Numbers) (c : Chunk) → FlightEntry l n c → Known l' n' c.message → n.unstarted ≤ n'.unstarted → FlightEntry l' n' c
flight_anew l l' n n' c h y e =
    record { of_stream = y.of_stream; numbered = y.numbered; seen = omega (arith, h.seen); lifetime = y.lifetime; dcep = y.dcep; acked_empty = h.acked_empty; abandoned_empty = h.abandoned_empty }

-- streams that stay open, and numbers that are taken
record Grows (l l' : List Stream) (n n' : Numbers) : Type 0 where
  still : (id : ℕ) (t : Stream) → find id l ≡ some t → (t' : Stream) × (find id l' ≡ some t')
  next : n.next ≤ n'.next
  unstarted : n'.unstarted ≡ n.unstarted

known_grows : (l l' : List Stream) (n n' : Numbers) (x : Message) → Grows l l' n n' → Known l n x → Known l' n' x
known_grows l l' n n' x g h =
    record {
      of_stream = g.still x.stream h.of_stream.0 h.of_stream.1;
      numbered = omega (arith, g.next, h.numbered);
      lifetime = rw g.unstarted h.lifetime;
      dcep = h.dcep;
    }

lists_grow : (l l' : List Stream) (n n' : Numbers) (p : Pending) (f : List Chunk) → Grows l l' n n' → Lists (PendingChunk l n) (FlightEntry l n) p f → Lists (PendingChunk l' n') (FlightEntry l' n') p f
lists_grow l l' n n' p f g v =
    lists_weaken (PendingChunk l n) (FlightEntry l n) (PendingChunk l' n') (FlightEntry l' n')
    (λ k c h. pending_anew l l' n n' k c c.message h (known_grows l l' n n' c.message g (pending_known l n k c h)) refl)
    (λ c h. flight_anew l l' n n' c h (known_grows l l' n n' c.message g (flight_known l n c h)) (omega (arith, g.unstarted))) p f v

-- ---- lifetimes start

abbrev all_seen : Numbers → Numbers
all_seen n = record { next = n.next; unstarted = n.next }

-- a message that was seen stays as it is
known_seen : (l : List Stream) (n : Numbers) (x : Message) → x.number < n.unstarted → Known l n x → Known l (all_seen n) x
known_seen l n x s h =
    record { of_stream = h.of_stream; numbered = h.numbered; lifetime = (λ i. absurd (omega (arith, h.numbered)), λ _. h.lifetime.1 s); dcep = h.dcep }

known_begun : (l : List Stream) (n : Numbers) (now : ℕ) (x : Message) → Known l n x → Known l (all_seen n) (begun now n.unstarted x)
known_begun l n now x h =
    bool_case (λ b. leb k x.number ≡ b → Known l (all_seen n) (when b && has_lifetime x then timed else x)) (leb k x.number)
    (λ _ e. bool_case (λ b. has_lifetime x ≡ b → Known l (all_seen n) (when b then timed else x)) (has_lifetime x) (λ _. with_one) (λ _. with_none e) refl)
    (λ _ e. known_seen l n x (leb-false k x.number e) h) refl
  where
    k : ℕ
    k = n.unstarted

    timed : Message
    timed = renewed x.ssn (Some (now + x.reliability.value)) x

    with_one : has_lifetime x ≡ true → Known l (all_seen n) timed
    with_one e =
        record {
          of_stream = h.of_stream;
          numbered = h.numbered;
          lifetime = (λ i. absurd (omega (arith, h.numbered)), λ _. sym e);
          dcep = λ d. absurd (true≢false (sym d ∙ not-true (is_dcep x.protocol) (and_r (eqb x.reliability.kind 2) (not (is_dcep x.protocol)) e)));
        }

    with_none : leb k x.number ≡ true → has_lifetime x ≡ false → Known l (all_seen n) x
    with_none i e =
        record {
          of_stream = h.of_stream;
          numbered = h.numbered;
          lifetime = (λ j. absurd (omega (arith, h.numbered)), λ _. h.lifetime.0 (leb-true k x.number i) ∙ sym e);
          dcep = h.dcep;
        }

begun_unordered : (now k : ℕ) (x : Message) → (begun now k x).unordered ≡ x.unordered
begun_unordered now k x = if-case (λ (y : Message). y.unordered ≡ x.unordered) (leb k x.number && has_lifetime x) (λ _. refl) (λ _. refl)

passed_present : (now : ℕ) (d : Moment) → passed now d ≡ true → present d ≡ true
passed_present now None e = e
passed_present now (Some d) e = refl

module _ (l : List Stream) (n : Numbers) where
  lists_started : (now : ℕ) (p : Pending) (f : List Chunk) → n.unstarted ≤ n.next → Lists (PendingChunk l n) (FlightEntry l n) p f
      → Lists (PendingChunk l (all_seen n)) (FlightEntry l (all_seen n)) (in_rings (map (started now n.unstarted)) p) f
  lists_started now p f u v =
      lists_map (PendingChunk l n) (FlightEntry l n) (PendingChunk l (all_seen n)) (FlightEntry l (all_seen n)) (started now n.unstarted)
      (λ k c h. pending_anew l l n (all_seen n) k c (begun now n.unstarted c.message) h (known_begun l n now c.message (pending_known l n k c h)) (begun_unordered now n.unstarted c.message))
      (λ c h. flight_anew l l n (all_seen n) c h (known_seen l n c.message h.seen (flight_known l n c h)) u) p f v

  -- ---- one chunk

  pending_lowered : (id : ℕ) (k : Lane) (c : Chunk) → PendingChunk l n k c → PendingChunk l n k (lowered id c)
  pending_lowered id k c h =
      let y : Known l n (renewed (ssn_before c.message.ssn) c.message.deadline c.message) = record { of_stream = h.of_stream; numbered = h.numbered; lifetime = h.lifetime; dcep = h.dcep } in
      if-case (PendingChunk l n k) (eqb c.message.stream id) (λ _. pending_anew l l n n k c _ h y refl) (λ _. h)

  flight_sent : (now : ℕ) (k : Lane) (c : Chunk) → n.next ≤ n.unstarted → PendingChunk l n k c → FlightEntry l n (sent_at now c)
  flight_sent now k c e h =
      record {
        of_stream = h.of_stream;
        numbered = h.numbered;
        seen = omega (arith, h.numbered);
        lifetime = h.lifetime;
        dcep = h.dcep;
        acked_empty = λ a. absurd (true≢false (sym a ∙ h.acked));
        abandoned_empty = λ a. absurd (true≢false (sym a ∙ h.abandoned));
      }

  flight_terminator : (m : ℕ) (k : Lane) (c : Chunk) → m < n.unstarted → is_of m c ≡ true → PendingChunk l n k c → FlightEntry l n (terminator c)
  flight_terminator m k c i e h =
      record {
        of_stream = h.of_stream;
        numbered = h.numbered;
        seen = omega (arith, eqb-true c.message.number m e);
        lifetime = h.lifetime;
        dcep = h.dcep;
        acked_empty = λ _. (refl, refl);
        abandoned_empty = λ _. (refl, refl);
      }

  flight_marked : (z : ℕ) (a b r : Bool) (c : Chunk) → (a ≡ true → (z ≡ 0) × (r ≡ false)) → (b ≡ true → (z ≡ 0) × (r ≡ false)) → FlightEntry l n c → FlightEntry l n (marked z a b r c)
  flight_marked z a b r c i j h =
      record { of_stream = h.of_stream; numbered = h.numbered; seen = h.seen; lifetime = h.lifetime; dcep = h.dcep; acked_empty = i; abandoned_empty = j }

  flight_given_up : (m : ℕ) (c : Chunk) → FlightEntry l n c → FlightEntry l n (given_up m c)
  flight_given_up m c h =
      if-case (FlightEntry l n) (is_of m c) (λ _. flight_marked 0 c.acked true false c (λ _. (refl, refl)) (λ _. (refl, refl)) h) (λ _. h)

  flight_acknowledged : (c : Chunk) → FlightEntry l n c → FlightEntry l n (acknowledged c)
  flight_acknowledged c h = flight_marked 0 true c.abandoned false c (λ _. (refl, refl)) (λ _. (refl, refl)) h

  flight_to_retransmit : (c : Chunk) → FlightEntry l n c → FlightEntry l n (to_retransmit c)
  flight_to_retransmit c h =
      flight_marked c.length c.acked c.abandoned (c.retransmit || outstanding c) c
      (λ e. let r = h.acked_empty e in (r.0, rw (r.1, e)))
      (λ e. let r = h.abandoned_empty e in (r.0, rw (r.1, e, or-true c.acked))) h

  -- a message with a passed deadline was seen
  overdue_seen : (now : ℕ) (k : Lane) (c : Chunk) → overdue now c ≡ true → PendingChunk l n k c → c.message.number < n.unstarted
  overdue_seen now k c e h =
      bool_case (λ b. leb n.unstarted c.message.number ≡ b → c.message.number < n.unstarted) (leb n.unstarted c.message.number)
      (λ _ i. absurd (true≢false (sym (passed_present now c.message.deadline (and_r (not (is_dcep c.message.protocol)) (passed now c.message.deadline) e)) ∙ h.lifetime.0 (leb-true n.unstarted c.message.number i))))
      (λ _ i. leb-false n.unstarted c.message.number i) refl

-- ---- a state

-- if no pending message is unseen, none is: with both rings empty, every message was seen
abbrev pub NoneUnseen : Pending → Numbers → Type 0
NoneUnseen p n = ((l : Lane) → Each (λ c. c.message.number < n.unstarted) (at l p)) → n.unstarted ≡ n.next

pub record Chunked (room : Room) (s : Sender) : Type 0 where
  pub pending : (l : Lane) → Each (PendingChunk s.streams s.numbers l) (at l s.pending)
  pub flying : Each (FlightEntry s.streams s.numbers) s.flight.entries
  pub unstarted : s.numbers.unstarted ≤ s.numbers.next
  pub unseen : NoneUnseen s.pending s.numbers
  pub distinct : Distinct s.streams
  pub maxima : Each Sized s.streams
  pub stream_room : length s.streams ≤ room.streams

pub chunked_fresh : (room : Room) (t n : ℕ) → Chunked room (fresh t n)
chunked_fresh room t n =
    record { pending = λ l. elim l as (λ k. Each (PendingChunk (fresh t n).streams (fresh t n).numbers k) (at k (fresh t n).pending)) [ Unordered ↦ tt | Ordered ↦ tt ]; flying = tt; unstarted = le_refl n; unseen = λ _. refl; distinct = tt; maxima = tt; stream_room = omega arith }

pub number_after_lem : (k : ℕ) (n : Numbers) → (n.next ≤ (number_after k n).next) × ((number_after k n).unstarted ≡ n.unstarted)
number_after_lem zero n = (le_refl _, refl)
number_after_lem (suc k) n = (omega arith, refl)

-- fragments of a new message
pending_piece : (l : List Stream) (n : Numbers) (x : Message) (m e : ℕ) → Known l n x → (c : Chunk) → Piece x m e c → PendingChunk l n (lane_of x.unordered) c
pending_piece l n x m e y c h =
    record {
      of_stream = rw h.message y.of_stream;
      numbered = rw h.message y.numbered;
      lifetime = rw h.message y.lifetime;
      dcep = rw h.message y.dcep;
      ring = rw h.message;
      full = h.full;
      unsent = h.unsent;
      nsent = h.nsent;
      acked = h.acked;
      abandoned = h.abandoned;
      retransmit = h.retransmit;
    }

lowered_number : (id : ℕ) (c : Chunk) → (lowered id c).message.number ≡ c.message.number
lowered_number id c = if-case (λ (d : Chunk). d.message.number ≡ c.message.number) (eqb c.message.stream id) (λ _. refl) (λ _. refl)

module _ (room : Room) (k : Call) (s : Sender) (v : Chunked room s) where
  abbrev P : Lane → Chunk → Type 0
  P = PendingChunk s.streams s.numbers

  abbrev Q : Chunk → Type 0
  Q = FlightEntry s.streams s.numbers

  lists : Lists P Q s.pending s.flight.entries
  lists = record { pending = v.pending; flying = v.flying }

  -- the table is another, or the lists are others
  with_table : (l : List Stream) → Table room k s.streams l → Chunked room (with_streams l s)
  with_table l t =
      let g = lists_grow s.streams l s.numbers s.numbers s.pending s.flight.entries (record { still = t.still; next = le_refl _; unstarted = refl }) lists in
      record { pending = g.pending; flying = g.flying; unstarted = v.unstarted; unseen = v.unseen; distinct = t.distinct v.distinct; maxima = t.sized v.maxima; stream_room = t.within v.stream_room }

  with_lists : (p : Pending) (t : ℕ) (f : List Chunk) → Lists P Q p f → NoneUnseen p s.numbers
      → Chunked room (record { streams = s.streams; pending = p; flight = record { oldest = t; entries = f }; numbers = s.numbers })
  with_lists p t f a u = record { pending = a.pending; flying = a.flying; unstarted = v.unstarted; unseen = u; distinct = v.distinct; maxima = v.maxima; stream_room = v.stream_room }

  with_flight_lem : (t : ℕ) (f : List Chunk) → Each Q f → Chunked room (record { streams = s.streams; pending = s.pending; flight = record { oldest = t; entries = f }; numbers = s.numbers })
  with_flight_lem t f a = with_lists s.pending t f (record { pending = v.pending; flying = a }) v.unseen

  -- the head was seen if its deadline has passed
  head_seen : (c : Chunk) (now : ℕ) → head s.pending ≡ some c → overdue now c ≡ true → c.message.number < s.numbers.unstarted
  head_seen c now e h = overdue_seen s.streams s.numbers now (head_lane s.pending) c h (lists_head P Q s.pending s.flight.entries c e lists)

  -- a seen message leaves the rings
  unseen_without : (m : ℕ) → m < s.numbers.unstarted → NoneUnseen (without m s.pending) s.numbers
  unseen_without m h a =
      v.unseen (λ i. each_unkeep (λ c. c.message.number < s.numbers.unstarted) (not_of m)
      (λ c e. omega (arith, eqb-true c.message.number m (not-false (is_of m c) e))) (at i s.pending) (rw (at_without m s.pending i) at (a i)))

  without_chunked : (m : ℕ) → m < s.numbers.unstarted → Chunked room (with_pending (without m s.pending) s)
  without_chunked m h = with_lists _ _ _ (lists_without P Q m s.pending s.flight.entries lists) (unseen_without m h)

  abandoned_chunked : (m : ℕ) → m < s.numbers.unstarted → Chunked room (abandoned m s)
  abandoned_chunked m h =
      with_lists _ _ _
      (lists_abandoned P Q m s.pending s.flight.entries (flight_given_up s.streams s.numbers m) (λ i c. flight_terminator s.streams s.numbers m i c h) lists)
      (unseen_without m h)

  -- the SSNs of a stream's ordered chunks drop
  lowered_chunked : (id : ℕ) → Chunked room (with_pending (with_ring Ordered s.pending.under_way (map (lowered id) s.pending.ordered) s.pending) s)
  lowered_chunked id =
      let o : List Chunk = s.pending.ordered in
      let Seen : Chunk → Type 0 = λ c. c.message.number < s.numbers.unstarted in
      with_lists _ _ _
      (lists_ring P Q Ordered s.pending.under_way (map (lowered id) o) s.pending s.flight.entries
      (each_map (P Ordered) (P Ordered) (lowered id) (pending_lowered s.streams s.numbers id Ordered) o (v.pending Ordered)) lists)
      (λ a. v.unseen (λ i. elim i as (λ k. Each Seen (at k s.pending)) [ Unordered ↦ a Unordered | Ordered ↦ each_unmap Seen Seen (lowered id) (λ c h. rw (lowered_number id c) at h) o (a Ordered) ]))

  started_chunked : (now : ℕ) → Chunked room (with_lifetimes now s)
  started_chunked now =
      let a = lists_started s.streams s.numbers now s.pending s.flight.entries v.unstarted lists in
      record { pending = a.pending; flying = a.flying; unstarted = le_refl _; unseen = λ _. refl; distinct = v.distinct; maxima = v.maxima; stream_room = v.stream_room }

  -- the front of a ring is sent, when all is seen
  taken_chunked : (i : Lane) (now : ℕ) (c : Chunk) (x : List Chunk) → at i s.pending ≡ c ∷ x → s.numbers.unstarted ≡ s.numbers.next → Chunked room (taken i now c x s)
  taken_chunked i now c x e h =
      with_lists _ _ _ (lists_taken P Q now i (under_way_after i c) c x s.pending s.flight.entries e (flight_sent s.streams s.numbers now i c (omega arith)) lists) (λ _. h)

  -- a new message's fragments join their ring
  accepted_chunked : (p o len : ℕ) (t : Stream) → Accepts room k s p o len t → Chunked room (accepted p o len t s)
  accepted_chunked p o len t h = go (pieces len t.maximum) (pieces_are x true t.maximum o len)
    where
      x : Message
      x = message_of p s.numbers.next t

      l : List Stream
      l = put (written p len t) s.streams

      table : Table room k s.streams l
      table = table_put room k h.identifier s.streams t (written p len t) h.found refl (λ _. written_fits p len t h.held)

      here : IsOpen l x
      here = subst (λ (i : ℕ). (t' : Stream) × (find i l ≡ some t')) (sym (found_is h.identifier s.streams t h.found)) (table.still h.identifier t h.found)

      new : (j : ℕ) → Each (Piece x t.maximum (o + len)) (cut x true j t.maximum o len)
          → Each (PendingChunk l (number_after j s.numbers) (lane_of x.unordered)) (cut x true j t.maximum o len)
      new zero a = tt
      new (suc j) a =
          let n : Numbers = number_after (suc j) s.numbers in
          each_weaken (Piece x t.maximum (o + len)) (PendingChunk l n (lane_of x.unordered))
          (pending_piece l n x t.maximum (o + len)
          (record { of_stream = here; numbered = le_refl _; lifetime = (λ _. refl, λ i. absurd (omega (arith, v.unstarted))); dcep = λ _. refl })) (cut x true (suc j) t.maximum o len) a

      none_unseen : (j : ℕ) → NoneUnseen (with_ring (lane_of x.unordered) s.pending.under_way (at (lane_of x.unordered) s.pending ++ cut x true j t.maximum o len) s.pending) (number_after j s.numbers)
      none_unseen zero a = v.unseen (joined_parts _ (lane_of x.unordered) s.pending.under_way [] s.pending a).0
      none_unseen (suc zero) a = absurd (omega (arith, v.unstarted, (joined_parts _ (lane_of x.unordered) s.pending.under_way _ s.pending a).1.0))
      none_unseen (suc (suc j)) a = absurd (omega (arith, v.unstarted, (joined_parts _ (lane_of x.unordered) s.pending.under_way _ s.pending a).1.0))

      go : (j : ℕ) → Each (Piece x t.maximum (o + len)) (cut x true j t.maximum o len)
          → Chunked room (record { streams = l; pending = with_ring (lane_of x.unordered) s.pending.under_way (at (lane_of x.unordered) s.pending ++ cut x true j t.maximum o len) s.pending; flight = s.flight; numbers = number_after j s.numbers })
      go j a =
          let n : Numbers = number_after j s.numbers in
          let after = number_after_lem j s.numbers in
          let g = lists_grow s.streams l s.numbers n s.pending s.flight.entries (record { still = table.still; next = after.0; unstarted = after.1 }) lists in
          let b = lists_pushed (PendingChunk l n) (FlightEntry l n) (lane_of x.unordered) s.pending.under_way (cut x true j t.maximum o len) s.pending s.flight.entries (new j a) g in
          record { pending = b.pending; flying = b.flying; unstarted = omega (arith, v.unstarted); unseen = none_unseen j; distinct = table.distinct v.distinct; maxima = table.sized v.maxima; stream_room = table.within v.stream_room }

compacted_chunked : (room : Room) (k : Call) (s : Sender) → Chunked room s → (b : Bool) (id : ℕ) → Chunked room (compacted b id s)
compacted_chunked room k s v true id = v
compacted_chunked room k s v false id = with_table room k _ (lowered_chunked room k s v id) _ (table_drop room k id s.streams)

-- ---- every call

does_chunked : (room : Room) (k : Call) (s : Sender) (r : Out Answer) (a x : Option ℕ) (b : Bool) → Does room k s r a x b → Chunked room s → Chunked room r.after
does_chunked room k s r a x b (streams_only _ l _ t) v = with_table room k s v l t
does_chunked room k s r a x b (writes p o len t _ h) v = accepted_chunked room k s v p o len t h
does_chunked room k s r a x b (starts now _ _ _) v = started_chunked room k s v now
does_chunked room k s r a x b (sends now c y _ e _) v = taken_chunked room k (with_lifetimes now s) (started_chunked room k s v now) (head_lane (with_lifetimes now s).pending) now c y e refl
does_chunked room k s r a x b (abandons_it c t _ _ e _) v =
    abandoned_chunked room k s v c.message.number (each_get (FlightEntry s.streams s.numbers) s.flight.entries (place t s.flight) c e v.flying).seen
does_chunked room k s r a x b (expires_tail c now _ _ e h) v =
    abandoned_chunked room k s v c.message.number (head_seen room k s v c now e (and_r (not c.beginning) (overdue now c) h))
does_chunked room k s r a x b (expires_whole c now _ _ e h) v =
    let o = and_r (leb 1 c.length) (overdue now c) (and_r c.beginning (leb 1 c.length && overdue now c) h) in
    compacted_chunked room k _ (without_chunked room k s v c.message.number (head_seen room k s v c now e o)) c.message.unordered c.message.stream
does_chunked room k s r a x b (acks t c _ _ _) v =
    with_flight_lem room k s v _ _ (each_adjust _ acknowledged (flight_acknowledged s.streams s.numbers) (place t s.flight) s.flight.entries v.flying)
does_chunked room k s r a x b (pops c f e) v = with_flight_lem room k s v _ f (subst (Each (FlightEntry s.streams s.numbers)) e v.flying).1
does_chunked room k s r a x b marks v =
    with_flight_lem room k s v _ _ (each_map (FlightEntry s.streams s.numbers) (FlightEntry s.streams s.numbers) to_retransmit (flight_to_retransmit s.streams s.numbers) s.flight.entries v.flying)

pub step_chunked : (room : Room) (k : Call) (s : Sender) → Chunked room s → Chunked room (step room k s).after
step_chunked room k s v = does_chunked room k s _ _ _ _ (does room k s) v

pub run_chunked : (room : Room) (ks : List Call) (s : Sender) → Chunked room s → Chunked room (run room ks s)
run_chunked room [] s v = v
run_chunked room (k ∷ ks) s v = run_chunked room ks (step room k s).after (step_chunked room k s v)

-- with both rings empty every message was seen
pub chunked_seen : (room : Room) (s : Sender) → Chunked room s → s.pending.unordered ≡ [] → s.pending.ordered ≡ [] → s.numbers.unstarted ≡ s.numbers.next
chunked_seen room s v e f = v.unseen (λ l. elim l as (λ k. Each {A = Chunk} (λ c. c.message.number < s.numbers.unstarted) (at k s.pending)) [ Unordered ↦ rw e tt | Ordered ↦ rw f tt ])

pub reached_chunked : (room : Room) (t n : ℕ) (ks : List Call) → Chunked room (run room ks (fresh t n))
reached_chunked room t n ks = run_chunked room ks (fresh t n) (chunked_fresh room t n)
