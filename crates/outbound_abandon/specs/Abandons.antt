-- A message is abandoned: what each way out of the calls comes to, of a sender that is a variable.
use Rattle.std.specs.Prelude.{◌≡◌, Bool, true, false, not, ℕ, ◌+◌, ◌<◌, Some, None}
use Rattle.std.proofs.Math.Path.{refl, sym, ap, ap₂}
use Rattle.std.proofs.Common.{◌∙◌, arith, lt-ltb, eq-eqb}
use Rattle.std.proofs.Math.Option.{Option, none, some}
use mathlib.Core.List.{List, [], ◌∷◌, ◌++◌, map, append-nil}
use Rattle.std.proofs.Math.ListN.{length}
use Rattle.std.proofs.lemmas.List.{length-map}
use Rattle.limits.specs.Limits.{Room}
use Rattle.model.specs.declared.Chunk.{Chunk}
use Rattle.model.specs.State.{Lane, Unordered, Ordered, Sender, Pending, Flight, Out, same, at, place, in_flight, is_of, with_pending}
use Rattle.model.specs.Lists.{when◌then◌else◌, keep, last}
use Rattle.model.specs.Rings.{bytes, pending_of, without, given_up, terminator, terminators, abandoned, held_by, abandoning, abandon}
use Rattle.model.specs.Flight.{found}
use Rattle.demands.specs.Words.{number_under_way}
use Rattle.demands.specs.States.{Has, drop_run}
use Rattle.payload_queue.specs.Queue.{changed, filed}
use Rattle.payload_queue.specs.OneRun.{given_up_near, held_near}
use Rattle.payload_queue.specs.Model.{with_flight}
use Rattle.pending_queue.specs.Runs.{runs, without_runs, runs_without, runs_pending}
use Rattle.outbound_queue.specs.Outbound.{Good}
use Rattle.outbound_abandon.specs.Together.{has_entry, AllNear, near_entry}
use Rattle.outbound_abandon.specs.Lean.{closed_by, leanly_abandoned, leanly_held, leanly_abandoning, lean_abandon}
use Rattle.ring.specs.Held.{found_some, found_none}
use Rattle.model.specs.Answers.{Abandoned, abandoned_message}

-- ---- in a Good state the runs are the whole message, and its terminator has a place

-- where a chunk of the message is pending, it is in a ring
in_ring : (n : ℕ) (p : Pending) (c : Chunk) → last (pending_of n p) ≡ some c → (l : Lane) × Has n (at l p)
in_ring n p c e = by (keep (is_of n) p.ordered) refl
  where
    other : (x : List Chunk) → keep (is_of n) p.unordered ≡ x → last x ≡ some c → Has n p.unordered
    other [] q e = let z : none ≡ some c = e in let y : ◌≡◌ {A = ℕ} 0 1 = cc in absurd (omega arith)
    other (d ∷ x) q e = λ z. let y : ◌≡◌ {A = ℕ} 0 1 = cc in omega arith

    by : (x : List Chunk) → keep (is_of n) p.ordered ≡ x → (l : Lane) × Has n (at l p)
    by [] q = (Unordered, other (keep (is_of n) p.unordered) refl (ap (λ (x : List Chunk). last (x ++ keep (is_of n) p.unordered)) (sym q) ∙ e))
    by (d ∷ x) q = (Ordered, λ z. let y : ◌≡◌ {A = ℕ} 0 1 = cc in omega arith)

module _ (room : Room) (s : Sender) (n i : ℕ) (near : AllNear n i s.flight.entries)
    (run : (l : Lane) → keep (λ (d : Chunk). not (is_of n d)) (at l s.pending) ≡ drop_run n (at l s.pending))
    (place-left : (c : Chunk) → last (pending_of n s.pending) ≡ some c → length s.flight.entries < room.flight) where
  closed : (o : Option Chunk) → last (pending_of n s.pending) ≡ o
      → closed_by room.flight o (changed (map (given_up n)) s.flight) ≡ record { oldest = s.flight.oldest; entries = map (given_up n) s.flight.entries ++ terminators o }
  closed none e = ap (λ (l : List Chunk). record { oldest = s.flight.oldest; entries = l }) (sym (append-nil (map (given_up n) s.flight.entries)))
  closed (some c) e =
      ap (λ (b : Bool). record { oldest = s.flight.oldest; entries = when b then map (given_up n) s.flight.entries ++ (terminator c ∷ []) else map (given_up n) s.flight.entries })
      (lt-ltb (length (map (given_up n) s.flight.entries)) room.flight (omega (arith, length-map s.flight.entries (given_up n), place-left c e)))

  pub lean_abandoned : leanly_abandoned room n i s ≡ abandoned n s
  unfolding leanly_abandoned
  lean_abandoned =
      ap (λ (m : List Chunk). record { streams = s.streams; pending = without_runs n s.pending; flight = closed_by room.flight (last (runs n s.pending)) (record { oldest = s.flight.oldest; entries = m }); numbers = s.numbers })
      (sym near.0)
      ∙ ap₂ (λ (p : Pending) (l : List Chunk). record { streams = s.streams; pending = p; flight = closed_by room.flight (last l) (changed (map (given_up n)) s.flight); numbers = s.numbers })
      (runs_without n s.pending run) (runs_pending n s.pending run)
      ∙ ap (λ (f : Flight). record { streams = s.streams; pending = without n s.pending; flight = f; numbers = s.numbers }) (closed (last (pending_of n s.pending)) refl)

  pub lean_held : leanly_held n i s ≡ held_by n s
  unfolding leanly_held
  lean_held = ap₂ (λ (k : ℕ) (l : List Chunk). k + bytes l) (sym near.1) (runs_pending n s.pending run)

module _ {room : Room} {s : Sender} (g : Good room s) where
  pub lean_abandon_lem : (t : ℕ) → lean_abandon room t s ≡ abandon t s
  unfolding lean_abandon abandon
  lean_abandon_lem t = by (in_flight t s.flight) refl
    where
      by : (o : Option Chunk) → in_flight t s.flight ≡ o → leanly_abandoning o room (place t s.flight) s ≡ abandoning o s
      by none e = refl
      by (some c) e =
          let n = c.message.number in
          let i = place t s.flight in
          let near = near_entry n (number_under_way s.pending) s.flight.entries i c g.contiguous e (eq-eqb n n refl) in
          let f = has_entry s.flight.entries i c e in
          let run = g.flight_run n f in
          let left : (d : Chunk) → last (pending_of n s.pending) ≡ some d → length s.flight.entries < room.flight = λ d q. let z = in_ring n s.pending d q in g.terminator_room n (g.partly z.0 n z.1 f) in
          ap₂ (λ (a : Sender) (k : ℕ). when c.abandoned then same (abandoned_message c.message.stream 0) s else record { after = a; says = abandoned_message c.message.stream k })
          (lean_abandoned room s n i near run left) (lean_held room s n i near run left)

-- ---- what the code gives up: from `s` to `x` the run of the message's entries around `i` is marked, from `x` to `y` its pending chunks go, and from `y` to `z` a
-- terminator is filed, at the room `k`

module _ (room : Room) (n i : ℕ) (s : Sender) {x y : Sender} (v : x ≡ with_flight (changed (given_up_near n i) s.flight) s) (w : y ≡ with_pending (without_runs n x.pending) x) where
  abbrev marked : Flight
  marked = changed (given_up_near n i) s.flight

  -- the sender then, of which this is the flight
  abbrev left : Flight → Sender
  left f = record { streams = s.streams; pending = without_runs n s.pending; flight = f; numbers = s.numbers }

  removed : y ≡ left marked
  removed = w ∙ ap (λ (o : Sender). with_pending (without_runs n o.pending) o) v

  runs_same : last (runs n x.pending) ≡ last (runs n s.pending)
  runs_same = ap (λ (o : Sender). last (runs n o.pending)) v

  gives : {z : Sender} (o : Option Chunk) → last (runs n x.pending) ≡ o → z ≡ left (closed_by room.flight o marked) → z ≡ leanly_abandoned room n i s
  unfolding leanly_abandoned
  gives o q e = e ∙ ap (λ (p : Option Chunk). left (closed_by room.flight p marked)) (sym q ∙ runs_same)

  pub gives_none : found (last (runs n x.pending)) ≡ None → y ≡ leanly_abandoned room n i s
  gives_none q = gives none (found_none (last (runs n x.pending)) q) removed

  pub gives_one : (c : Chunk) → found (last (runs n x.pending)) ≡ Some c → {d : Chunk} {k : ℕ} {z : Sender} → d ≡ terminator c → k ≡ room.flight → z ≡ with_flight (filed k d y.flight) y
      → z ≡ leanly_abandoned room n i s
  gives_one c q {d} {k} e h f =
      gives (some c) (found_some (last (runs n x.pending)) c q)
      (f ∙ ap (λ (o : Sender). with_flight (filed k d o.flight) o) removed ∙ ap₂ (λ (j : ℕ) (t : Chunk). left (filed j t marked)) h e)

pub gives_held : (n i : ℕ) (s : Sender) {x : Sender} {a b : ℕ} → x ≡ with_flight (changed (given_up_near n i) s.flight) s → a ≡ held_near n i s.flight.entries → b ≡ bytes (runs n x.pending)
    → a + b ≡ leanly_held n i s
unfolding leanly_held
gives_held n i s v e q = ap₂ (λ (j k : ℕ). j + k) e (q ∙ ap (λ (o : Sender). bytes (runs n o.pending)) v)

-- ---- the ways out

module _ (room : Room) (t : ℕ) (s : Sender) where
  at_entry : (o : Option Chunk) {r : Out Abandoned} → in_flight t s.flight ≡ o → r ≡ leanly_abandoning o room (place t s.flight) s → r ≡ lean_abandon room t s
  unfolding lean_abandon
  at_entry o e q = q ∙ sym (ap (λ (y : Option Chunk). leanly_abandoning y room (place t s.flight) s) e)

  pub abandon_none : found (in_flight t s.flight) ≡ None → same None s ≡ lean_abandon room t s
  abandon_none e = at_entry none (found_none (in_flight t s.flight) e) refl

  module _ (c : Chunk) (e : found (in_flight t s.flight) ≡ Some c) where
    abbrev gives_up : (near : ℕ) → Out Abandoned
    gives_up i = record { after = leanly_abandoned room c.message.number i s; says = abandoned_message c.message.stream (leanly_held c.message.number i s) }

    abbrev picks : Bool → Out Abandoned
    picks b = when b then same (abandoned_message c.message.stream 0) s else gives_up (place t s.flight)

    pub abandon_again : c.abandoned ≡ true → same (abandoned_message c.message.stream 0) s ≡ lean_abandon room t s
    abandon_again q = at_entry (some c) (found_some (in_flight t s.flight) c e) (sym (ap picks q))

    -- `i` is the entry's place
    pub abandon_one : c.abandoned ≡ false → {i : ℕ} → i ≡ place t s.flight → {after : Sender} {n : ℕ} → after ≡ leanly_abandoned room c.message.number i s → n ≡ leanly_held c.message.number i s
        → record { after = after; says = abandoned_message c.message.stream n } ≡ lean_abandon room t s
    abandon_one q p v w =
        ap₂ (λ (a : Sender) (k : ℕ). record { after = a; says = abandoned_message c.message.stream k }) v w ∙ ap gives_up p
        ∙ at_entry (some c) (found_some (in_flight t s.flight) c e) (sym (ap picks q))
