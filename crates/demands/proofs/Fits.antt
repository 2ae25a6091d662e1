-- Every number stays in its type, whatever the calls.
use Prim.Native.Nat.{ℕ, zero, suc, ◌+◌, ◌≤◌, ◌<◌}
use native.Mathlib.Nat.{le_refl, le_trans}
use native.Mathlib.Omega.{arith}
use mathlib.Core.Path.{◌≡◌, refl, sym, ap, subst, ◌∙◌}
use mathlib.Core.Bool.{Bool, true, false, ◌&&◌}
use mathlib.Core.Option.{Option}
use mathlib.Core.List.{List, [], ◌∷◌, ◌++◌, map}
use lib.Dec.{eqb, leb}
use borrow.Author.Tests.{eqb-false, le-leb}
use Rattle.limits.specs.Limits.{Room, clock_max, setting_max, offset_max, payload_max, number_max, tsns, ssns}
use Rattle.model.specs.declared.Chunk.{Chunk}
use Rattle.model.specs.State.{Lane, Unordered, Ordered, Sender, Pending, Numbers, Out, fresh, at, lane_of, with_ring, with_pending, with_streams, is_of, place}
use Rattle.model.specs.declared.Message.{Message}
use Rattle.model.specs.declared.Stream.{Stream}
use Rattle.model.specs.Streams.{put}
use Rattle.model.specs.Messages.{cut, message_of, pieces, number_after, written, accepted}
use Rattle.model.specs.Rings.{
  head_lane,
  with_message,
  renewed,
  ssn_before,
  has_lifetime,
  begun,
  started,
  lowered,
  with_lifetimes,
  sent_at,
  under_way_after,
  taken,
  without,
  compacted,
  marked,
  given_up,
  terminator,
  abandoned,
}
use Rattle.model.specs.Flight.{acknowledged, to_retransmit}
use Rattle.model.specs.Calls.{Call, Answer, step, run}
use Rattle.demands.specs.Words.{Each}
use Rattle.demands.specs.Numbers.{Typed, AtMost, MessageFits, ChunkFits, StreamFits, Fits, NumbersFit}
use Rattle.demands.proofs.Basic.{if-case}
use Rattle.demands.proofs.Each.{each_weaken, each_map, each_adjust}
use Rattle.demands.proofs.Lists.{Lists, lists_map, lists_ring, lists_pushed, lists_taken, lists_without, lists_abandoned}
use Rattle.demands.proofs.Tables.{Table, each_find, table_put, table_drop, written_fits}
use Rattle.demands.proofs.Views.{Does, does, Accepts, streams_only, writes, starts, sends, abandons_it, expires_tail, expires_whole, acks, pops, marks}
use Rattle.demands.proofs.Pieces.{Piece, pieces_are}
use Rattle.demands.proofs.Chunks.{number_after_lem}
use Rattle.std.specs.Prelude.{Some}
use Rattle.limits.specs.Moments.{Moment}

-- ---- one message

message_renewed : (n : ℕ) (d : Moment) (x : Message) → n < ssns → AtMost (clock_max + setting_max) d → MessageFits x → MessageFits (renewed n d x)
message_renewed n d x i j h = record { stream = h.stream; ssn = i; protocol = h.protocol; number = h.number; reliability = h.reliability; deadline = j }

message_begun : (now k : ℕ) (x : Message) → now ≤ clock_max → MessageFits x → MessageFits (begun now k x)
message_begun now k x i h =
    if-case MessageFits (leb k x.number && has_lifetime x) (λ _. message_renewed x.ssn (Some (now + x.reliability.value)) x h.ssn (omega (arith, h.reliability.value)) h) (λ _. h)

-- ---- one chunk

module _ (room : Room) where
  abbrev F : Chunk → Type 0
  F = ChunkFits room

  fits_message : (x : Message) (c : Chunk) → MessageFits x → F c → F (with_message x c)
  fits_message x c m h = record { message = m; offset = h.offset; reach = h.reach; length = h.length; since = h.since; nsent = h.nsent }

  fits_started : (now k : ℕ) → now ≤ clock_max → (c : Chunk) → F c → F (started now k c)
  fits_started now k i c h = fits_message _ c (message_begun now k c.message i h.message) h

  fits_lowered : (id : ℕ) (c : Chunk) → F c → F (lowered id c)
  fits_lowered id c h =
      if-case F (eqb c.message.stream id)
      (λ _. fits_message _ c (message_renewed (ssn_before c.message.ssn) c.message.deadline c.message (omega arith) h.message.deadline h.message) h) (λ _. h)

  fits_sent : (now : ℕ) → now ≤ clock_max → (c : Chunk) → F c → F (sent_at now c)
  fits_sent now i c h = record { message = h.message; offset = h.offset; reach = h.reach; length = h.length; since = i; nsent = le_refl 1 }

  fits_terminator : (c : Chunk) → F c → F (terminator c)
  fits_terminator c h = record { message = h.message; offset = h.offset; reach = omega (arith, h.offset); length = omega arith; since = tt; nsent = omega arith }

  -- marks hold no more bytes than before
  fits_marked : (z : ℕ) (a b r : Bool) (c : Chunk) → z ≤ c.length → F c → F (marked z a b r c)
  fits_marked z a b r c i h =
      record { message = h.message; offset = h.offset; reach = omega (arith, h.reach); length = le_trans i h.length; since = h.since; nsent = h.nsent }

  fits_given_up : (n : ℕ) (c : Chunk) → F c → F (given_up n c)
  fits_given_up n c h = if-case F (is_of n c) (λ _. fits_marked 0 c.acked true false c (omega arith) h) (λ _. h)

  fits_piece : (x : Message) (m e : ℕ) → MessageFits x → m ≤ payload_max → e ≤ offset_max + room.message → (c : Chunk) → Piece x m e c → F c
  fits_piece x m e y i j c h =
      record {
        message = rw h.message y;
        offset = omega (arith, h.reach, h.full);
        reach = omega (arith, h.reach);
        length = le_trans h.short i;
        since = rw h.unsent tt;
        nsent = rw h.nsent (omega arith);
      }

-- ---- a state

fits_fresh : (room : Room) (t n : ℕ) → t < tsns → n ≤ number_max → Fits room (fresh t n)
fits_fresh room t n h k = record { streams = tt; pending = λ l. elim l as (λ k. Each (ChunkFits room) (at k (fresh t n).pending)) [ Unordered ↦ tt | Ordered ↦ tt ]; flying = tt; next = k; unstarted = le_refl n; oldest = h }

-- a number that is taken is not the last
below : (j n m : ℕ) → n ≤ m → (leb 1 (suc j) && eqb n m) ≡ false → n < m
below j n m h e = let d = eqb-false n m (sym (ap (λ (b : Bool). b && eqb n m) (le-leb 1 (suc j) (omega arith))) ∙ e) in omega (arith, d)

next_fits : (j : ℕ) (n : Numbers) (m : ℕ) → n.next ≤ m → (leb 1 j && eqb n.next m) ≡ false → (number_after j n).next ≤ m
next_fits zero n m h e = h
next_fits (suc j) n m h e = below j n.next m h e

module _ (room : Room) (k : Call) (s : Sender) (v : Fits room s) where
  abbrev Q : Chunk → Type 0
  Q = ChunkFits room

  abbrev P : Lane → Chunk → Type 0
  P _ = Q

  lists : Lists P Q s.pending s.flight.entries
  lists = record { pending = v.pending; flying = v.flying }

  -- the table is another, or the lists are others
  with_table : (l : List Stream) → Each StreamFits l → Fits room (with_streams l s)
  with_table l t = record { streams = t; pending = v.pending; flying = v.flying; next = v.next; unstarted = v.unstarted; oldest = v.oldest }

  with_lists : (p : Pending) (t : ℕ) (f : List Chunk) → t < tsns → Lists P Q p f
      → Fits room (record { streams = s.streams; pending = p; flight = record { oldest = t; entries = f }; numbers = s.numbers })
  with_lists p t f i a = record { streams = v.streams; pending = a.pending; flying = a.flying; next = v.next; unstarted = v.unstarted; oldest = i }

  with_flight_lem : (t : ℕ) (f : List Chunk) → t < tsns → Each Q f → Fits room (record { streams = s.streams; pending = s.pending; flight = record { oldest = t; entries = f }; numbers = s.numbers })
  with_flight_lem t f i a = with_lists s.pending t f i (record { pending = v.pending; flying = a })

  without_fits : (m : ℕ) → Fits room (with_pending (without m s.pending) s)
  without_fits m = with_lists _ _ _ v.oldest (lists_without P Q m s.pending s.flight.entries lists)

  abandoned_fits : (m : ℕ) → Fits room (abandoned m s)
  abandoned_fits m = with_lists _ _ _ v.oldest (lists_abandoned P Q m s.pending s.flight.entries (fits_given_up room m) (λ _ c _. fits_terminator room c) lists)

  lowered_fits : (id : ℕ) → Fits room (with_pending (with_ring Ordered s.pending.under_way (map (lowered id) s.pending.ordered) s.pending) s)
  lowered_fits id =
      with_lists _ _ _ v.oldest
      (lists_ring P Q Ordered s.pending.under_way (map (lowered id) s.pending.ordered) s.pending s.flight.entries
      (each_map Q Q (lowered id) (fits_lowered room id) s.pending.ordered (v.pending Ordered)) lists)

  started_fits : (now : ℕ) → now ≤ clock_max → Fits room (with_lifetimes now s)
  started_fits now i =
      let a = lists_map P Q P Q (started now s.numbers.unstarted) (λ _. fits_started room now s.numbers.unstarted i) (λ _ h. h) s.pending s.flight.entries lists in
      record { streams = v.streams; pending = a.pending; flying = a.flying; next = v.next; unstarted = le_refl _; oldest = v.oldest }

  taken_fits : (l : Lane) (now : ℕ) (c : Chunk) (x : List Chunk) → now ≤ clock_max → at l s.pending ≡ c ∷ x → Fits room (taken l now c x s)
  taken_fits l now c x i e = with_lists _ _ _ v.oldest (lists_taken P Q now l (under_way_after l c) c x s.pending s.flight.entries e (fits_sent room now i c) lists)

  accepted_fits : Typed k → (p o len : ℕ) (t : Stream) → Accepts room k s p o len t → Fits room (accepted p o len t s)
  accepted_fits ty p o len t h = go (pieces len t.maximum) h.numbered (pieces_are x true t.maximum o len)
    where
      x : Message
      x = message_of p s.numbers.next t

      table : Table room k s.streams (put (written p len t) s.streams)
      table = table_put room k h.identifier s.streams t (written p len t) h.found refl (λ _. written_fits p len t h.held)

      new : (j : ℕ) → (leb 1 j && eqb s.numbers.next number_max) ≡ false → Each (Piece x t.maximum (o + len)) (cut x true j t.maximum o len) → Each Q (cut x true j t.maximum o len)
      new zero e a = tt
      new (suc j) e a =
          let f : StreamFits t = each_find StreamFits h.identifier s.streams t h.found v.streams in
          let y : MessageFits x = record { stream = f.identifier; ssn = f.ssn; protocol = h.typed ty; number = below j s.numbers.next number_max v.next e; reliability = f.reliability; deadline = tt } in
          each_weaken (Piece x t.maximum (o + len)) Q (fits_piece room x t.maximum (o + len) y f.most (omega (arith, h.offset, h.short))) (cut x true (suc j) t.maximum o len) a

      go : (j : ℕ) → (leb 1 j && eqb s.numbers.next number_max) ≡ false → Each (Piece x t.maximum (o + len)) (cut x true j t.maximum o len)
          → Fits room (record { streams = put (written p len t) s.streams; pending = with_ring (lane_of x.unordered) s.pending.under_way (at (lane_of x.unordered) s.pending ++ cut x true j t.maximum o len) s.pending; flight = s.flight; numbers = number_after j s.numbers })
      go j e a =
          let after = number_after_lem j s.numbers in
          let b = lists_pushed P Q (lane_of x.unordered) s.pending.under_way (cut x true j t.maximum o len) s.pending s.flight.entries (new j e a) lists in
          record { streams = table.fits ty v.streams; pending = b.pending; flying = b.flying; next = next_fits j s.numbers number_max v.next e; unstarted = omega (arith, v.unstarted); oldest = v.oldest }

compacted_fits : (room : Room) (k : Call) → Typed k → (s : Sender) → Fits room s → (b : Bool) (id : ℕ) → Fits room (compacted b id s)
compacted_fits room k ty s v true id = v
compacted_fits room k ty s v false id = with_table room k _ (lowered_fits room k s v id) _ ((table_drop room k id s.streams).fits ty v.streams)

-- ---- every call

does_fits : (room : Room) (k : Call) (s : Sender) (r : Out Answer) (a x : Option ℕ) (b : Bool) → Does room k s r a x b → Typed k → Fits room s → Fits room r.after
does_fits room k s r a x b (streams_only _ l _ t) ty v = with_table room k s v l (t.fits ty v.streams)
does_fits room k s r a x b (writes p o len t _ h) ty v = accepted_fits room k s v ty p o len t h
does_fits room k s r a x b (starts now _ _ i) ty v = started_fits room k s v now i
does_fits room k s r a x b (sends now c y i e _) ty v = taken_fits room k (with_lifetimes now s) (started_fits room k s v now i) (head_lane (with_lifetimes now s).pending) now c y i e
does_fits room k s r a x b (abandons_it c t _ _ e _) ty v = abandoned_fits room k s v c.message.number
does_fits room k s r a x b (expires_tail c now _ _ e h) ty v = abandoned_fits room k s v c.message.number
does_fits room k s r a x b (expires_whole c now _ _ e h) ty v = compacted_fits room k ty _ (without_fits room k s v c.message.number) c.message.unordered c.message.stream
does_fits room k s r a x b (acks t c _ _ _) ty v =
    with_flight_lem room k s v _ _ v.oldest (each_adjust (ChunkFits room) acknowledged (λ c. fits_marked room 0 true c.abandoned false c (omega arith)) (place t s.flight) s.flight.entries v.flying)
does_fits room k s r a x b (pops c f e) ty v = with_flight_lem room k s v _ f (omega arith) (subst (Each (ChunkFits room)) e v.flying).1
does_fits room k s r a x b marks ty v =
    with_flight_lem room k s v _ _ v.oldest (each_map (ChunkFits room) (ChunkFits room) to_retransmit (λ c. fits_marked room c.length c.acked c.abandoned _ c (le_refl _)) s.flight.entries v.flying)

pub step_fits : (room : Room) (k : Call) (s : Sender) → Typed k → Fits room s → Fits room (step room k s).after
step_fits room k s ty v = does_fits room k s _ _ _ _ (does room k s) ty v

pub run_fits : (room : Room) (ks : List Call) (s : Sender) → Each Typed ks → Fits room s → Fits room (run room ks s)
run_fits room [] s ty v = v
run_fits room (k ∷ ks) s ty v = run_fits room ks (step room k s).after ty.1 (step_fits room k s ty.0 v)

pub numbers_fit : NumbersFit
numbers_fit room t n h i ks ty = run_fits room ks (fresh t n) ty (fits_fresh room t n h i)
