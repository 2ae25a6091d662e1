-- A refused call leaves the state as it was, and its number is on its list: every call, in every state, by the tests that part its answers.
use Prim.Native.Nat.{ℕ, suc, ◌+◌}
use native.Mathlib.Omega.{arith}
use mathlib.Core.Path.{◌≡◌, refl, subst}
use mathlib.Core.Logic.{◌≢◌}
use mathlib.Core.Bool.{Bool, true, false, not, ◌&&◌}
use mathlib.Core.Option.{Option, none, some}
use mathlib.Core.List.{List, [], ◌∷◌}
use lib.ListN.{length}
use lib.Dec.{leb, ltb, eqb}
use lib.IntN.{ℤ}
use borrow.Author.Tests.{leb-true}
use Rattle.limits.specs.Limits.{Room, clock_max, offset_max, buffered_max, payload_max, number_max}
use Rattle.limits.specs.Refusals.{done, beyond_limit, bad_bounds, not_open, already_open, streams_full, message_long, buffer_full, ring_full, numbers_spent, flight_full, list_short}
use Rattle.model.specs.declared.Chunk.{Chunk}
use Rattle.model.specs.declared.Stream.{Stream}
use Rattle.model.specs.State.{Lane, Sender, Out, same, at, lane_of}
use Rattle.model.specs.Lists.{when◌then◌else◌, some_of}
use Rattle.model.specs.Streams.{find, open_new, open_stream, changed, set_reliability, set_low, set_high, releasing, release, amount, counts}
use Rattle.model.specs.Messages.{pieces, is_unordered, writing, write}
use Rattle.model.specs.Rings.{head, head_lane, with_lifetimes, start_lifetimes, sending, send, expires, expiring, expire_pending, tail_expires, tail_expiring, expire_pending_tail, tsns_of, expired_entry, Listing, expired_inflight}
use Rattle.model.specs.Calls.{
  Query,
  Get,
  IsAbandoned,
  PeekPending,
  NextMessage,
  NextTsn,
  PendingLength,
  PendingBytes,
  InflightLength,
  InflightBytes,
  EarliestOutstanding,
  PendingContainsStream,
  ContainsStream,
  BufferedAmount,
  LowThreshold,
  HighThreshold,
  Statistics,
  ExpiredInflight,
  Call,
  Open,
  SetReliability,
  SetLow,
  SetHigh,
  Write,
  Release,
  StartLifetimes,
  Send,
  ExpirePending,
  ExpirePendingTail,
  Abandon,
  Acknowledge,
  Pop,
  MarkAll,
  Ask,
  Answer,
  to_do,
  to_write,
  to_release,
  to_send,
  to_expire,
  to_expire_tail,
  to_measure,
  to_count,
  to_list,
  answer,
  step,
  number_of,
}
use Rattle.demands.specs.Refusals.{RefusalsChangeNothing, refusal_in, refusals_of_asking, refusals_of, Listed, RefusalsAreListed}
use Rattle.demands.proofs.Basic.{if-case, and_l, and_r}
use Rattle.std.specs.Prelude.{Err}
use Rattle.limits.specs.declared.Refusal.TheVariants.{BeyondLimit}

-- an answer that refuses with a number of the list, or not at all
record Answers (l : List ℕ) (a : Answer) : Type 0 where
  by : (n : ℕ) → refusal_in a ≡ some n → Listed l n

-- what comes back of a call of s, its answers being read by f: if it is refused, s is as it was and the number is on the list
record Harmless {A : Type 0} (f : A → Answer) (l : List ℕ) (s : Sender) (r : Out A) : Type 0 where
  unchanged : number_of (f r.says) ≢ done → r.after ≡ s
  listed : Answers l (f r.says)

-- refused with m
refuses : {l : List ℕ} {a : Answer} (m : ℕ) → refusal_in a ≡ some m → some_of (eqb m) l ≡ true → (leb 1 m && leb m 12) ≡ true → Answers l a
refuses {l} m e h w =
    record {
      by = λ n q.
          let z : m ≡ n = cc in
          subst (Listed l) z (record { stands = h; least = leb-true 1 m (and_l (leb 1 m) (leb m 12) w); most = leb-true m 12 (and_r (leb 1 m) (leb m 12) w) });
    }

-- not refused
quiet : {l : List ℕ} {a : Answer} → refusal_in a ≡ none → Answers l a
quiet e = record { by = λ n q. let z : ◌≡◌ {A = ℕ} 0 1 = cc in absurd (omega arith) }

-- nothing has changed
still : {A : Type 0} {f : A → Answer} {l : List ℕ} {s : Sender} {a : A} → Answers l (f a) → Harmless f l s (same a s)
still h = record { unchanged = λ n. refl; listed = h }

-- nothing was refused
fine : {A : Type 0} {f : A → Answer} {l : List ℕ} {s : Sender} {r : Out A} → number_of (f r.says) ≡ done → refusal_in (f r.says) ≡ none → Harmless f l s r
fine e h = record { unchanged = λ n. absurd (n e); listed = quiet h }

-- a test decides between two
either : {A : Type 0} {f : A → Answer} {l : List ℕ} {s : Sender} (b : Bool) {x y : Out A} → Harmless f l s x → Harmless f l s y → Harmless f l s (when b then x else y)
either true p q = p
either false p q = q

-- ---- what calls come to, by what they find

open_new_lem : (t : Option Stream) (room : Room) (id m : ℕ) (s : Sender) → Harmless to_do (refusals_of (Open id m)) s (open_new t room id m s)
open_new_lem (some t) room id m s = still (refuses already_open refl refl refl)
open_new_lem none room id m s = either (leb room.streams (length s.streams)) (still (refuses streams_full refl refl refl)) (fine refl refl)

change : (t : Option Stream) (f : Stream → Stream) (s : Sender) → Harmless to_do (not_open ∷ []) s (changed t f s)
change none f s = still (refuses not_open refl refl refl)
change (some t) f s = fine refl refl

write_found : (t : Option Stream) (room : Room) (id p o l : ℕ) (s : Sender) → Harmless to_write (refusals_of (Write id p o l)) s (writing t room p o l s)
write_found none room id p o l s = still (refuses not_open refl refl refl)
write_found (some t) room id p o l s =
    either (ltb room.message l) (still (refuses message_long refl refl refl))
    (either (ltb offset_max o) (still (refuses beyond_limit refl refl refl))
    (either (ltb buffered_max (t.buffered + l)) (still (refuses buffer_full refl refl refl))
    (either (ltb room.ring (length (at (lane_of (is_unordered p t)) s.pending) + pieces l t.maximum)) (still (refuses ring_full refl refl refl))
    (either (leb 1 (pieces l t.maximum) && eqb s.numbers.next number_max) (still (refuses numbers_spent refl refl refl)) (fine refl refl)))))

release_found : (t : Option Stream) (r : ℤ) (s : Sender) → Harmless to_release (not_open ∷ []) s (releasing t r s)
release_found none r s = still (refuses not_open refl refl refl)
release_found (some t) r s = fine refl refl

-- the clock is tested first
clocked : {A : Type 0} {f : A → Answer} {l : List ℕ} {s : Sender} (now : ℕ) (a : A) {y : Out A} → refusal_in (f a) ≡ some beyond_limit → some_of (eqb beyond_limit) l ≡ true
    → Harmless f l s y → Harmless f l s (when ltb clock_max now then same a s else y)
clocked now a e h p = either (ltb clock_max now) (still (refuses beyond_limit e h refl)) p

send_front : (x : Lane) (y : List Chunk) (room : Room) (now : ℕ) (s s' : Sender) → Harmless to_send (refusals_of (Send now)) s (sending x y room now s s')
send_front x [] room now s s' = fine refl refl
send_front x (c ∷ y) room now s s' = either (leb room.flight (suc (length s.flight.entries))) (still (refuses flight_full refl refl refl)) (fine refl refl)

expire_head : (c : Option Chunk) (now : ℕ) (s : Sender) → Harmless to_expire (refusals_of (ExpirePending now)) s (expiring c now s)
expire_head none now s = still (quiet refl)
expire_head (some c) now s = either (expires now c) (fine refl refl) (still (quiet refl))

expire_tail : (c : Option Chunk) (now : ℕ) (s : Sender) → Harmless to_expire_tail (refusals_of (ExpirePendingTail now)) s (tail_expiring c now s)
expire_tail none now s = still (quiet refl)
expire_tail (some c) now s = either (tail_expires now c) (fine refl refl) (still (quiet refl))

-- ---- what questions come to

amount_found : (t : Option Stream) (f : Stream → ℕ) → Answers (not_open ∷ []) (to_measure (amount t f))
amount_found none f = refuses not_open refl refl refl
amount_found (some t) f = quiet refl

counts_found : (t : Option Stream) → Answers (not_open ∷ []) (to_count (counts t))
counts_found none = refuses not_open refl refl refl
counts_found (some t) = quiet refl

expired_list : (now n : ℕ) (s : Sender) → Answers (beyond_limit ∷ list_short ∷ []) (to_list (expired_inflight now n s))
unfolding expired_inflight
expired_list now n s =
    let P : Listing → Type 0 = λ x. Answers (beyond_limit ∷ list_short ∷ []) (to_list x) in
    let l : List ℕ = tsns_of (expired_entry now s.pending) s.flight.oldest s.flight.entries in
    if-case P (ltb clock_max now) (λ _. refuses beyond_limit refl refl refl) λ _.
    if-case P (ltb n (length l)) (λ _. refuses list_short refl refl refl) (λ _. quiet refl)

asked : (q : Query) (s : Sender) → Answers (refusals_of_asking q) (answer q s)
asked (Get t) s = quiet refl
asked (IsAbandoned t) s = quiet refl
asked PeekPending s = quiet refl
asked NextMessage s = quiet refl
asked NextTsn s = quiet refl
asked PendingLength s = quiet refl
asked PendingBytes s = quiet refl
asked InflightLength s = quiet refl
asked InflightBytes s = quiet refl
asked EarliestOutstanding s = quiet refl
asked (PendingContainsStream id) s = quiet refl
asked (ContainsStream id) s = quiet refl
asked (BufferedAmount id) s = amount_found (find id s.streams) _
asked (LowThreshold id) s = amount_found (find id s.streams) _
asked (HighThreshold id) s = amount_found (find id s.streams) _
asked (Statistics id) s = counts_found (find id s.streams)
asked (ExpiredInflight now n) s = expired_list now n s

-- ---- every call

-- the two facts of a call, whatever its answers are
record Heeded (k : Call) (s : Sender) (r : Out Answer) : Type 0 where
  unchanged : number_of r.says ≢ done → r.after ≡ s
  listed : Answers (refusals_of k) r.says

heeds : {A : Type 0} {f : A → Answer} {k : Call} {s : Sender} {r : Out A} → Harmless f (refusals_of k) s r → Heeded k s (record { after = r.after; says = f r.says })
heeds h = record { unchanged = h.unchanged; listed = h.listed }

heeded : (room : Room) (k : Call) (s : Sender) → Heeded k s (step room k s)
unfolding open_stream set_reliability set_low set_high write release start_lifetimes send expire_pending expire_pending_tail
heeded room (Open id m) s = heeds (either (not (leb 1 m && leb m payload_max)) (still (refuses bad_bounds refl refl refl)) (open_new_lem (find id s.streams) room id m s))
heeded room (SetReliability id u k v) s = heeds (change (find id s.streams) _ s)
heeded room (SetLow id x) s = heeds (change (find id s.streams) _ s)
heeded room (SetHigh id x) s = heeds (change (find id s.streams) _ s)
heeded room (Write id p o l) s = heeds (write_found (find id s.streams) room id p o l s)
heeded room (Release id r) s = heeds (release_found (find id s.streams) r s)
heeded room (StartLifetimes now) s = heeds {f = to_do} (clocked now (Err BeyondLimit) refl refl (fine refl refl))
heeded room (Send now) s =
    let p = (with_lifetimes now s).pending in
    heeds (clocked now (Err BeyondLimit) refl refl (send_front (head_lane p) (at (head_lane p) p) room now s (with_lifetimes now s)))
heeded room (ExpirePending now) s = heeds (clocked now (Err BeyondLimit) refl refl (expire_head (head s.pending) now s))
heeded room (ExpirePendingTail now) s = heeds (clocked now (Err BeyondLimit) refl refl (expire_tail (head s.pending) now s))
heeded room (Abandon t) s = record { unchanged = λ n. absurd (n refl); listed = quiet refl }
heeded room (Acknowledge t) s = record { unchanged = λ n. absurd (n refl); listed = quiet refl }
heeded room (Pop t) s = record { unchanged = λ n. absurd (n refl); listed = quiet refl }
heeded room MarkAll s = record { unchanged = λ n. absurd (n refl); listed = quiet refl }
heeded room (Ask q) s = record { unchanged = λ _. refl; listed = asked q s }

pub refusals_change_nothing : RefusalsChangeNothing
refusals_change_nothing room k s = (heeded room k s).unchanged

pub refusals_are_listed : RefusalsAreListed
refusals_are_listed room k s = (heeded room k s).listed.by
