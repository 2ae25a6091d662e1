-- What a call can come to: one constructor for each outcome, so that a law of all calls is proved by matching.
use Prim.Native.Nat.{ℕ, suc, ◌+◌, ◌%◌, ◌^◌, ◌≤◌, ◌<◌}
use native.Mathlib.Omega.{arith}
use mathlib.Core.Path.{ap, ◌≡◌, refl}
use mathlib.Core.Bool.{Bool, true, false, not, ◌&&◌}
use mathlib.Core.Option.{Option, none, some}
use mathlib.Core.List.{List, [], ◌∷◌, map}
use lib.ListN.{length}
use lib.Dec.{eqb, leb, ltb}
use lib.IntN.{ℤ}
use borrow.Author.Tests.{ltb-false, leb-false}
use Rattle.limits.specs.Limits.{Room, clock_max, offset_max, buffered_max, number_max, payload_max, tsns}
use Rattle.model.specs.declared.Chunk.{Chunk}
use Rattle.model.specs.declared.Stream.{Stream}
use Rattle.model.specs.Lists.{when◌then◌else◌, adjust}
use Rattle.model.specs.State.{Sender, Pending, Out, same, with_streams, with_pending, with_entries, at, lane_of, next_tsn, place, in_flight}
use Rattle.model.specs.Streams.{find, open_stream, open_new, changed, set_reliability, set_low, set_high, release, releasing}
use Rattle.model.specs.Messages.{pieces, is_unordered, accepted, write, writing}
use Rattle.model.specs.Rings.{
  head_lane,
  head,
  with_lifetimes,
  start_lifetimes,
  sent_at,
  taken,
  sending,
  send,
  without,
  expires,
  compacted,
  expiring,
  expire_pending,
  abandoned,
  abandoning,
  abandon,
  tail_expires,
  tail_expiring,
  expire_pending_tail,
  pending_of,
  bytes,
  held_by,
}
use Rattle.model.specs.Flight.{acknowledged, acknowledging, acknowledge, popping, pop, to_retransmit, mark_all}
use Rattle.model.specs.Calls.{Call, Get, IsAbandoned, PeekPending, NextMessage, NextTsn, PendingLength, PendingBytes, InflightLength, InflightBytes, EarliestOutstanding, PendingContainsStream, ContainsStream, BufferedAmount, LowThreshold, HighThreshold, Statistics, ExpiredInflight, Query, Open, SetReliability, SetLow, SetHigh, Write, Release, StartLifetimes, Send, ExpirePending, ExpirePendingTail, Abandon, Acknowledge, Pop, MarkAll, Ask, Answer, to_do, to_write, to_release, to_send, to_expire, to_expire_tail, to_abandon, to_find, number, answer, told, step, yielded}
use Rattle.demands.specs.Words.{abandons, abandons_entry, expires_message, passing, accepts_unordered, was_accepted, unordered_for}
use Rattle.demands.specs.Numbers.{Typed, StreamFits}
use Rattle.demands.proofs.Basic.{if-case, bool_case}
use Rattle.demands.proofs.Tables.{Table, table_same, table_put, table_open, delivering_fits, thresholds_fit, reduced_fits}
use Rattle.std.specs.Prelude.{Some, None, Ok, Err}
use Rattle.limits.specs.declared.Refusal.TheVariants.{BeyondLimit}
use Rattle.model.specs.Answers.{Written, did, expired_message, expired_rest, abandoned_message}

-- an answer that yields nothing
abbrev pub Quiet : Answer → Type 0
Quiet a = yielded a ≡ []

-- no refusal of a write applies
pub record Accepts (room : Room) (k : Call) (s : Sender) (p o len : ℕ) (t : Stream) : Type 0 where
  pub identifier : ℕ
  pub found : find identifier s.streams ≡ some t
  pub typed : Typed k → p < 2 ^ 32
  pub short : len ≤ room.message
  pub offset : o ≤ offset_max
  pub held : t.buffered + len ≤ buffered_max
  pub fits : length (at (lane_of (is_unordered p t)) s.pending) + pieces len t.maximum ≤ room.ring
  pub numbered : (leb 1 (pieces len t.maximum) && eqb s.numbers.next number_max) ≡ false

-- a popped flight
abbrev pub popped : List Chunk → Sender → Sender
popped f s = record { streams = s.streams; pending = s.pending; flight = record { oldest = (s.flight.oldest + 1) % tsns; entries = f }; numbers = s.numbers }

-- the outcomes of a call on s: what it gives, the message that it abandons, the one that it expires, and whether it accepts an unordered one
pub data Does (room : Room) (k : Call) (s : Sender) : Out Answer → Option ℕ → Option ℕ → Bool → Type 0 where
  -- nothing pending or in flight changes
  streams_only : (a : Answer) (l : List Stream) → Quiet a → Table room k s.streams l → Does room k s (record { after = with_streams l s; says = a }) none none false
  writes : (p o len : ℕ) (t : Stream) (h : Bool) → Accepts room k s p o len t
      → Does room k s (record { after = accepted p o len t s; says = to_write (Ok h) }) none none (is_unordered p t)
  starts : (now : ℕ) (a : Answer) → Quiet a → now ≤ clock_max → Does room k s (record { after = with_lifetimes now s; says = a }) none none false
  sends : (now : ℕ) (c : Chunk) (x : List Chunk) → now ≤ clock_max → at (head_lane (with_lifetimes now s).pending) (with_lifetimes now s).pending ≡ c ∷ x
      → suc (length s.flight.entries) < room.flight
      → Does room k s (record { after = taken (head_lane (with_lifetimes now s).pending) now c x (with_lifetimes now s); says = to_send (Ok (Some (next_tsn s, sent_at now c))) }) none none false
  abandons_it : (c : Chunk) (t : ℕ) (a : Answer) → Quiet a → in_flight t s.flight ≡ some c → c.abandoned ≡ false
      → Does room k s (record { after = abandoned c.message.number s; says = a }) (some c.message.number) none false
  expires_tail : (c : Chunk) (now : ℕ) (a : Answer) → Quiet a → head s.pending ≡ some c → tail_expires now c ≡ true
      → Does room k s (record { after = abandoned c.message.number s; says = a }) (some c.message.number) none false
  expires_whole : (c : Chunk) (now : ℕ) (a : Answer) → Quiet a → head s.pending ≡ some c → expires now c ≡ true
      → Does room k s (record { after = compacted c.message.unordered c.message.stream (with_pending (without c.message.number s.pending) s); says = a })
      none (some c.message.number) false
  acks : (t : ℕ) (c : Chunk) (a : Answer) → Quiet a → in_flight t s.flight ≡ some c
      → Does room k s (record { after = with_entries (adjust acknowledged (place t s.flight) s.flight.entries) s; says = a }) none none false
  pops : (c : Chunk) (f : List Chunk) → s.flight.entries ≡ c ∷ f → Does room k s (record { after = popped f s; says = to_find (Some c) }) none none false
  marks : Does room k s (record { after = with_entries (map to_retransmit s.flight.entries) s; says = to_do did }) none none false

module _ (room : Room) (k : Call) (s : Sender) where
  abbrev Only : Out Answer → Type 0
  Only r = Does room k s r none none false

  unchanged : (a : Answer) → Quiet a → Only (same a s)
  unchanged a q = streams_only a s.streams q (table_same room k s.streams)

  open_does : (id m : ℕ) → (Typed k → id < 2 ^ 16) → Only (told to_do (open_stream room id m s))
  unfolding open_stream
  open_does id m i =
      if-case (λ r. Only (told to_do r)) (not (leb 1 m && leb m payload_max)) (λ _. unchanged _ refl) (λ h. go h (find id s.streams) refl)
    where
      go : not (leb 1 m && leb m payload_max) ≡ false → (x : Option Stream) → find id s.streams ≡ x → Only (told to_do (open_new x room id m s))
      go h (some t) e = unchanged _ refl
      go h none e =
          if-case (λ r. Only (told to_do r)) (leb room.streams (length s.streams)) (λ _. unchanged _ refl)
          (λ n. streams_only _ _ refl (table_open room k id m s.streams i h e n))

  changed_does : (id : ℕ) (f : Stream → Stream) → ((t : Stream) → t.maximum ≡ (f t).maximum) → ((t : Stream) → (Typed k → StreamFits t → StreamFits (f t))) → Only (told to_do (changed (find id s.streams) f s))
  changed_does id f m h = go (find id s.streams) refl
    where
      go : (x : Option Stream) → find id s.streams ≡ x → Only (told to_do (changed x f s))
      go (some t) e = streams_only _ _ refl (table_put room k id s.streams t (f t) e (m t) (h t))
      go none e = unchanged _ refl

  release_does : (id : ℕ) (r : ℤ) → Only (told to_release (release id r s))
  unfolding release
  release_does id r = go (find id s.streams) refl
    where
      go : (x : Option Stream) → find id s.streams ≡ x → Only (told to_release (releasing x r s))
      go (some t) e = streams_only _ _ refl (table_put room k id s.streams t _ e refl (λ _. reduced_fits r t))
      go none e = unchanged _ refl

  write_does : (id p o l : ℕ) → (Typed k → p < 2 ^ 32)
      → Does room k s (told to_write (write room id p o l s)) none none (was_accepted (write room id p o l s).says && unordered_for (find id s.streams) p)
  unfolding write
  write_does id p o l ty = go (find id s.streams) refl
    where
      go : (x : Option Stream) → find id s.streams ≡ x
          → Does room k s (told to_write (writing x room p o l s)) none none (was_accepted (writing x room p o l s).says && unordered_for x p)
      go none e = unchanged _ refl
      go (some t) e =
          let P : Out Written → Type 0 = λ r. Does room k s (told to_write r) none none (was_accepted r.says && is_unordered p t) in
          if-case P (ltb room.message l) (λ _. unchanged _ refl) λ a.
          if-case P (ltb offset_max o) (λ _. unchanged _ refl) λ b.
          if-case P (ltb buffered_max (t.buffered + l)) (λ _. unchanged _ refl) λ c.
          if-case P (ltb room.ring (length (at (lane_of (is_unordered p t)) s.pending) + pieces l t.maximum)) (λ _. unchanged _ refl) λ d.
          if-case P (leb 1 (pieces l t.maximum) && eqb s.numbers.next number_max) (λ _. unchanged _ refl) λ n.
          writes p o l t _
          (record { identifier = id; found = e; typed = ty; short = ltb-false _ _ a; offset = ltb-false _ _ b; held = ltb-false _ _ c; fits = ltb-false _ _ d; numbered = n })

  start_does : (now : ℕ) → Only (told to_do (start_lifetimes now s))
  unfolding start_lifetimes
  start_does now = if-case (λ r. Only (told to_do r)) (ltb clock_max now) (λ _. unchanged _ refl) (λ h. starts now _ refl (ltb-false _ _ h))

  send_does : (now : ℕ) → Only (told to_send (send room now s))
  unfolding send
  send_does now = if-case (λ r. Only (told to_send r)) (ltb clock_max now) (λ _. unchanged _ refl) (λ h. go (ltb-false _ _ h) (at (head_lane p) p) refl)
    where
      p : Pending
      p = (with_lifetimes now s).pending

      go : now ≤ clock_max → (x : List Chunk) → at (head_lane p) p ≡ x → Only (told to_send (sending (head_lane p) x room now s (with_lifetimes now s)))
      go h [] e = starts now _ refl h
      go h (c ∷ x) e =
          if-case (λ r. Only (told to_send r)) (leb room.flight (suc (length s.flight.entries))) (λ _. unchanged _ refl) (λ n. sends now c x h e (leb-false _ _ n))

  abandon_does : (t : ℕ) → Does room k s (told to_abandon (abandon t s)) (abandons_entry (in_flight t s.flight)) none false
  unfolding abandon
  abandon_does t = go (in_flight t s.flight) refl
    where
      go : (x : Option Chunk) → in_flight t s.flight ≡ x → Does room k s (told to_abandon (abandoning x s)) (abandons_entry x) none false
      go none e = unchanged _ refl
      go (some c) e =
          let x = c.message in
          bool_case (λ b. c.abandoned ≡ b → Does room k s (told to_abandon (when b then same (abandoned_message x.stream 0) s else record { after = abandoned x.number s; says = abandoned_message x.stream (held_by x.number s) })) (when b then none else some x.number) none false)
          c.abandoned (λ _ _. unchanged _ refl) (λ _ h. abandons_it c t _ refl e h) refl

  tail_does : (now : ℕ) → Does room k s (told to_expire_tail (expire_pending_tail now s)) (when ltb clock_max now then none else passing (tail_expires now) (head s.pending)) none false
  unfolding expire_pending_tail
  tail_does now =
      bool_case (λ b. Does room k s (told to_expire_tail (when b then same (Err BeyondLimit) s else tail_expiring (head s.pending) now s)) (when b then none else passing (tail_expires now) (head s.pending)) none false)
      (ltb clock_max now) (λ _. unchanged _ refl) (λ _. go (head s.pending) refl)
    where
      go : (x : Option Chunk) → head s.pending ≡ x → Does room k s (told to_expire_tail (tail_expiring x now s)) (passing (tail_expires now) x) none false
      go none e = unchanged _ refl
      go (some c) e =
          let x = c.message in
          bool_case (λ b. tail_expires now c ≡ b → Does room k s (told to_expire_tail (when b then record { after = abandoned x.number s; says = expired_rest x.stream x.number (held_by x.number s) } else same (Ok None) s)) (when b then some x.number else none) none false)
          (tail_expires now c) (λ _ h. expires_tail c now _ refl e h) (λ _ _. unchanged _ refl) refl

  expire_does : (now : ℕ) → Does room k s (told to_expire (expire_pending now s)) none (when ltb clock_max now then none else passing (expires now) (head s.pending)) false
  unfolding expire_pending
  expire_does now =
      bool_case (λ b. Does room k s (told to_expire (when b then same (Err BeyondLimit) s else expiring (head s.pending) now s)) none (when b then none else passing (expires now) (head s.pending)) false)
      (ltb clock_max now) (λ _. unchanged _ refl) (λ _. go (head s.pending) refl)
    where
      go : (x : Option Chunk) → head s.pending ≡ x → Does room k s (told to_expire (expiring x now s)) none (passing (expires now) x) false
      go none e = unchanged _ refl
      go (some c) e =
          let x = c.message in
          bool_case (λ b. expires now c ≡ b → Does room k s (told to_expire (when b then record { after = compacted x.unordered x.stream (with_pending (without x.number s.pending) s); says = expired_message x.stream x.unordered (bytes (pending_of x.number s.pending)) } else same (Ok None) s)) none (when b then some x.number else none) false)
          (expires now c) (λ _ h. expires_whole c now _ refl e h) (λ _ _. unchanged _ refl) refl

  ack_does : (t : ℕ) → Only (told number (acknowledge t s))
  unfolding acknowledge
  ack_does t = go (in_flight t s.flight) refl
    where
      go : (x : Option Chunk) → in_flight t s.flight ≡ x → Only (told number (acknowledging x t s))
      go none e = unchanged _ refl
      go (some c) e = acks t c _ refl e

  pop_does : (t : ℕ) → Only (told to_find (pop t s))
  unfolding pop
  pop_does t = go s.flight.entries refl
    where
      go : (f : List Chunk) → s.flight.entries ≡ f → Only (told to_find (popping f t s))
      go [] e = unchanged _ refl
      go (c ∷ f) e = if-case (λ r. Only (told to_find r)) (eqb t s.flight.oldest) (λ _. pops c f e) (λ _. unchanged _ refl)

-- a question's answer yields nothing
pub ask_quiet : (q : Query) (s : Sender) → Quiet (answer q s)
ask_quiet (Get t) s = refl
ask_quiet (IsAbandoned t) s = refl
ask_quiet PeekPending s = refl
ask_quiet NextMessage s = refl
ask_quiet NextTsn s = refl
ask_quiet PendingLength s = refl
ask_quiet PendingBytes s = refl
ask_quiet InflightLength s = refl
ask_quiet InflightBytes s = refl
ask_quiet EarliestOutstanding s = refl
ask_quiet (PendingContainsStream i) s = refl
ask_quiet (ContainsStream i) s = refl
ask_quiet (BufferedAmount i) s = refl
ask_quiet (LowThreshold i) s = refl
ask_quiet (HighThreshold i) s = refl
ask_quiet (Statistics i) s = refl
ask_quiet (ExpiredInflight now n) s = refl

-- every call's outcome is one of these
pub does : (room : Room) (k : Call) (s : Sender) → Does room k s (step room k s) (abandons k s) (expires_message k s) (accepts_unordered room k s)
unfolding set_reliability set_low set_high mark_all
does room (Open id m) s = open_does room (Open id m) s id m (λ h. h)
does room (SetReliability id u k v) s =
    changed_does room (SetReliability id u k v) s id _ (λ _. refl) (λ t ty. delivering_fits u (record { kind = k; value = v }) t (record { kind = ty.0; value = ty.1 }))
does room (SetLow id x) s = changed_does room (SetLow id x) s id _ (λ _. refl) (λ t ty p. thresholds_fit x t.high t ty p.high p)
does room (SetHigh id x) s = changed_does room (SetHigh id x) s id _ (λ _. refl) (λ t ty p. thresholds_fit t.low x t p.low ty p)
does room (Write id p o l) s = write_does room (Write id p o l) s id p o l (λ h. h)
does room (Release id r) s = release_does room (Release id r) s id r
does room (StartLifetimes now) s = start_does room (StartLifetimes now) s now
does room (Send now) s = send_does room (Send now) s now
does room (ExpirePending now) s = expire_does room (ExpirePending now) s now
does room (ExpirePendingTail now) s = tail_does room (ExpirePendingTail now) s now
does room (Abandon t) s = abandon_does room (Abandon t) s t
does room (Acknowledge t) s = ack_does room (Acknowledge t) s t
does room (Pop t) s = pop_does room (Pop t) s t
does room MarkAll s = marks
does room (Ask q) s = unchanged room (Ask q) s (answer q s) (ask_quiet q s)

-- a send that yields took the front of the head's ring
pub record Yields (room : Room) (s : Sender) (now tsn : ℕ) (y : Chunk) : Type 0 where
  pub front : Chunk
  pub others : List Chunk
  pub clock : now ≤ clock_max
  pub stood : at (head_lane (with_lifetimes now s).pending) (with_lifetimes now s).pending ≡ front ∷ others
  pub fits : suc (length s.flight.entries) < room.flight
  pub sent : sent_at now front ≡ y
  pub tsn_is : next_tsn s ≡ tsn
  pub after_is : (send room now s).after ≡ taken (head_lane (with_lifetimes now s).pending) now front others (with_lifetimes now s)

pub send_yields : (room : Room) (s : Sender) (now tsn : ℕ) (y : Chunk) → (send room now s).says ≡ Ok (Some (tsn, y)) → Yields room s now tsn y
unfolding send
send_yields room s now tsn y = go (ltb clock_max now) refl
  where
    p : Pending
    p = (with_lifetimes now s).pending

    go : (b : Bool) → ltb clock_max now ≡ b → (send room now s).says ≡ Ok (Some (tsn, y)) → Yields room s now tsn y
    go true h q = let r = rw h at q in let z : ◌≡◌ {A = ℕ} 0 1 = cc in absurd (omega arith)
    go false h q = front (at (head_lane p) p) refl q
      where
        front : (x : List Chunk) → at (head_lane p) p ≡ x → (send room now s).says ≡ Ok (Some (tsn, y)) → Yields room s now tsn y
        front [] e q = let r = rw (h, e) at q in let z : ◌≡◌ {A = ℕ} 0 1 = cc in absurd (omega arith)
        front (c ∷ x) e q = room_left (leb room.flight (suc (length s.flight.entries))) refl q
          where
            room_left : (b : Bool) → leb room.flight (suc (length s.flight.entries)) ≡ b → (send room now s).says ≡ Ok (Some (tsn, y)) → Yields room s now tsn y
            room_left true n q = let r = rw (h, e, n) at q in let z : ◌≡◌ {A = ℕ} 0 1 = cc in absurd (omega arith)
            room_left false n q =
                record {
                  front = c;
                  others = x;
                  clock = ltb-false _ _ h;
                  stood = e;
                  fits = leb-false _ _ n;
                  sent = let r = rw (h, e, n) at q in let pair : (next_tsn s, sent_at now c) ≡ (tsn, y) = cc in ap (λ (p : ℕ × Chunk). p.1) pair;
                  tsn_is = let r = rw (h, e, n) at q in let pair : (next_tsn s, sent_at now c) ≡ (tsn, y) = cc in ap (λ (p : ℕ × Chunk). p.0) pair;
                  after_is = rw (h, e, n);
                }
