-- Lifetimes start, and the head goes to the flight: what each way out of the two calls comes to, of a sender that is a variable.
use Rattle.std.specs.Prelude.{is_some, ◌≡◌, refl, Bool, true, false, List, [], ◌∷◌, ◌++◌, map, ℕ, suc, ◌≤◌, ◌<◌, min, length, leb, eqb, Some, None, Ok, Err}
use Rattle.std.proofs.Math.Path.{sym, ap}
use Rattle.std.proofs.Common.{ap₂, ◌∙◌, arith, lt-ltb, le-ltb, leb-false}
use Rattle.std.proofs.Math.Option.{Option, none, some}
use Rattle.std.proofs.Math.Dec.{ltb}
use Rattle.limits.specs.Limits.{Room, clock_max}
use Rattle.model.specs.declared.Chunk.{Chunk}
use Rattle.model.specs.State.{Lane, Unordered, Ordered, UnderWay, Idle, Sending, Sender, Pending, Out, at, in_rings, same, next_tsn, with_pending}
use Rattle.model.specs.Lists.{when◌then◌else◌, first}
use Rattle.model.specs.Rings.{head_lane, head, started, start_lifetimes, with_lifetimes, send, sending, sent_at, taken}
use Rattle.model.specs.Flight.{found}
use Rattle.rows.specs.Walks.{all}
use Rattle.ring.specs.Held.{first_none}
use Rattle.payload_queue.specs.Queue.{filed}
use Rattle.payload_queue.specs.Model.{with_flight}
use Rattle.pending_queue.specs.Fronts.{popped, popped_from, popped_none}
use Rattle.pending_queue.specs.Lifetimes.{unseen, started_end, started_rings}
use Rattle.outbound_queue.specs.Outbound.{Good}
use Rattle.outbound_queue.specs.Steps.{seen_with, ends_started, new_ends}
use Rattle.outbound_send.specs.Lean.{lean_start, lean_send}
use Rattle.limits.specs.declared.Refusal.TheVariants.{BeyondLimit, FlightFull}
use Rattle.model.specs.Answers.{Sent, did}

-- ---- in a Good state the ends of the rings are all that was not seen

module _ (now : ℕ) {room : Room} {s : Sender} (g : Good room s) where
  ends_are : ends_started now s ≡ with_lifetimes now s
  ends_are =
      let k = s.numbers.unstarted in
      ap (λ (p : Pending). seen_with p s) (new_ends now k s.numbers.next s.pending g.numbered ∙ started_rings now k s.pending g.ordered)

  pub lean_start_lem : lean_start now s ≡ start_lifetimes now s
  unfolding lean_start start_lifetimes
  lean_start_lem = ap (λ (b : Sender). when ltb clock_max now then same (Err BeyondLimit) s else record { after = b; says = did }) ends_are

  pub lean_send_lem : (r : Room) → lean_send r now s ≡ send r now s
  unfolding lean_send send
  lean_send_lem r = ap (λ (b : Sender). when ltb clock_max now then same (Err BeyondLimit) s else sending (head_lane b.pending) (at (head_lane b.pending) b.pending) r now s b) ends_are

-- ---- lifetimes

module _ (now : ℕ) (s : Sender) where
  pub start_late : clock_max < now → same (Err BeyondLimit) s ≡ lean_start now s
  unfolding lean_start
  start_late h = sym (ap (λ (b : Bool). when b then same (Err BeyondLimit) s else record { after = ends_started now s; says = did }) (lt-ltb clock_max now h))

  -- the clock is in range
  pub in_range : now ≤ clock_max → {x : Sender} → x ≡ ends_started (min now clock_max) s → x ≡ ends_started now s
  in_range h e = let m : min now clock_max ≡ now = omega arith in e ∙ ap (λ (n : ℕ). ends_started n s) m

  pub start_all : now ≤ clock_max → {x : Sender} → x ≡ ends_started now s → record { after = x; says = did } ≡ lean_start now s
  unfolding lean_start
  start_all h e =
      ap (λ (y : Sender). record { after = y; says = did }) e
      ∙ sym (ap (λ (b : Bool). when b then same (Err BeyondLimit) s else record { after = ends_started now s; says = did }) (le-ltb clock_max now h))

-- ---- whether there is a head and no room for it, which is asked before lifetimes start

abbrev pub blocked : Option Chunk → (room : ℕ) → (entries : List Chunk) → Bool
blocked none room f = false
blocked (some c) room f = leb room (suc (length f))

pub blocked_room : (h : Option Chunk) (room : ℕ) (f : List Chunk) → leb room (suc (length f)) ≡ false → false ≡ blocked h room f
blocked_room none room f e = refl
blocked_room (some c) room f e = sym e

pub blocked_full : (h : Option Chunk) (room : ℕ) (f : List Chunk) → leb room (suc (length f)) ≡ true → is_some (found h) ≡ blocked h room f
blocked_full none room f e = refl
blocked_full (some c) room f e = sym e

-- ---- the head's ring with lifetimes started

module _ (now k : ℕ) where
  ahead_started : (w : UnderWay) (u o : List Chunk)
      → let p : Pending = record { under_way = w; unordered = u; ordered = o } in
      at (head_lane (in_rings (started_end now k) p)) (in_rings (started_end now k) p) ≡ started_end now k (at (head_lane p) p)
  ahead_started Idle [] o = refl
  ahead_started Idle (c ∷ u) o = by (all (unseen k) (c ∷ u))
    where
      by : (b : Bool) → let x : List Chunk = when b then map (started now k) (c ∷ u) else (c ∷ started_end now k u) in
          let p : Pending = record { under_way = Idle; unordered = x; ordered = started_end now k o } in at (head_lane p) p ≡ x
      by true = refl
      by false = refl
  ahead_started (Sending Unordered) u o = refl
  ahead_started (Sending Ordered) u o = refl

  blocked_by : (room : ℕ) (f x : List Chunk) → blocked (first (started_end now k x)) room f ≡ blocked (first x) room f
  blocked_by room f [] = refl
  blocked_by room f (c ∷ x) = by (all (unseen k) (c ∷ x))
    where
      by : (b : Bool) → blocked (first (when b then map (started now k) (c ∷ x) else (c ∷ started_end now k x))) room f ≡ leb room (suc (length f))
      by true = refl
      by false = refl

  -- so too where none is started, since every message was seen: `b`
  blocked_new : (b : Bool) (p : Pending) (room : ℕ) (f : List Chunk) → blocked (head (in_rings (λ (l : List Chunk). when b then l else started_end now k l) p)) room f ≡ blocked (head p) room f
  blocked_new true p room f = refl
  blocked_new false p room f =
      ap (λ (x : List Chunk). blocked (first x) room f) (ahead_started p.under_way p.unordered p.ordered) ∙ blocked_by room f (at (head_lane p) p)

-- ---- sending

module _ (room : Room) (now : ℕ) (s : Sender) where
  -- the sender with lifetimes started, and the ring of its head
  abbrev begun : Sender
  begun = ends_started now s

  abbrev ahead : Pending → List Chunk
  ahead p = at (head_lane p) p

  abbrev sends : Bool → Out Sent
  sends b = when b then same (Err BeyondLimit) s else sending (head_lane begun.pending) (ahead begun.pending) room now s begun

  pub send_late : clock_max < now → same (Err BeyondLimit) s ≡ lean_send room now s
  unfolding lean_send
  send_late h = sym (ap sends (lt-ltb clock_max now h))

  -- `n` is the room, as code counts it
  module _ {n : ℕ} (r : room.flight ≡ n) where
    still_blocked : blocked (first (ahead begun.pending)) room.flight s.flight.entries ≡ blocked (head s.pending) n s.flight.entries
    still_blocked =
        let k = s.numbers.unstarted in
        blocked_new now k (eqb k s.numbers.next) s.pending room.flight s.flight.entries ∙ ap (λ (i : ℕ). blocked (head s.pending) i s.flight.entries) r

    module _ (h : now ≤ clock_max) where
      opened : {r : Out Sent} → r ≡ sending (head_lane begun.pending) (ahead begun.pending) room now s begun → r ≡ lean_send room now s
      unfolding lean_send
      opened e = e ∙ sym (ap sends (le-ltb clock_max now h))

      full_by : (l : Lane) (x : List Chunk) → blocked (first x) room.flight s.flight.entries ≡ true → same (Err FlightFull) s ≡ sending l x room now s begun
      full_by l [] e = let z : ◌≡◌ {A = ℕ} 0 1 = cc in absurd (omega arith)
      full_by l (c ∷ x) e = sym (ap (λ (b : Bool). when b then same (Err FlightFull) s else record { after = taken l now c x begun; says = Ok (Some (next_tsn s, sent_at now c)) }) e)

      pub send_full : blocked (head s.pending) n s.flight.entries ≡ true → same (Err FlightFull) s ≡ lean_send room now s
      send_full e = opened (full_by (head_lane begun.pending) (ahead begun.pending) (still_blocked ∙ e))

      -- `x` has lifetimes started, and from `y` the head is gone
      module _ {x y : Sender} (e : x ≡ begun) (t : y ≡ with_pending (popped x.pending) x) where
        pub send_none : found (head x.pending) ≡ None → record { after = y; says = Ok None } ≡ lean_send room now s
        send_none q =
            ap (λ (z : Sender). record { after = z; says = Ok None }) (t ∙ ap (λ (p : Pending). with_pending p x) (sym (popped_none x.pending q)) ∙ e)
            ∙ opened (sym (ap (λ (l : List Chunk). sending (head_lane begun.pending) l room now s begun) (first_none (ahead begun.pending) (sym (ap (λ (z : Sender). found (head z.pending)) e) ∙ q))))

        -- the sender behind it, of which this is pending
        abbrev sent_with : Pending → Chunk → Out Sent
        sent_with p c =
            record {
              after = with_flight (filed room.flight (sent_at now c) s.flight) (with_pending p begun);
              says = Ok (Some (next_tsn s, sent_at now c));
            }

        one_by : (l : Lane) (k : List Chunk) (c : Chunk) → found (first k) ≡ Some c → blocked (first k) room.flight s.flight.entries ≡ false
            → sent_with (popped_from l k begun.pending) c ≡ sending l k room now s begun
        one_by l [] c q n = let z : ◌≡◌ {A = ℕ} 0 1 = cc in absurd (omega arith)
        one_by l (d ∷ k) c q n =
            let it : c ≡ d = cc in
            let f = leb-false room.flight (suc (length s.flight.entries)) n in
            ap (sent_with (popped_from l (d ∷ k) begun.pending)) it
            ∙ ap (λ (b : Bool). record {
              after = with_flight (record { oldest = s.flight.oldest; entries = when b then s.flight.entries ++ (sent_at now d ∷ []) else s.flight.entries }) (with_pending (popped_from l (d ∷ k) begun.pending) begun);
              says = Ok (Some (next_tsn s, sent_at now d));
            }) (lt-ltb (length s.flight.entries) room.flight (omega arith))
            ∙ sym (ap (λ (b : Bool). when b then same (Err FlightFull) s else record { after = taken l now d k begun; says = Ok (Some (next_tsn s, sent_at now d)) }) n)

        -- `z` has the chunk filed, and `told` is that chunk
        pub send_one : (c : Chunk) → found (head x.pending) ≡ Some c → blocked (head s.pending) n s.flight.entries ≡ false
            → {z : Sender} {i m : ℕ} {sent told : Chunk} → told ≡ sent → sent ≡ sent_at now c → m ≡ n → z ≡ with_flight (filed m sent y.flight) y → i ≡ next_tsn s
            → record { after = z; says = Ok (Some (i, told)) } ≡ lean_send room now s
        send_one c q w {z} {i} {m} {sent} {told} p v u f k =
            let g : y ≡ with_pending (popped begun.pending) begun = t ∙ ap (λ (o : Sender). with_pending (popped o.pending) o) e in
            ap (λ (d : Chunk). record { after = z; says = Ok (Some (i, d)) }) p
            ∙ ap (λ (o : Sender). record { after = o; says = Ok (Some (i, sent)) })
            (f ∙ ap (λ (j : ℕ). with_flight (filed j sent y.flight) y) (u ∙ sym r) ∙ ap (λ (o : Sender). with_flight (filed room.flight sent o.flight) o) g)
            ∙ ap₂ (λ (j : ℕ) (d : Chunk). record { after = with_flight (filed room.flight d s.flight) (with_pending (popped begun.pending) begun); says = Ok (Some (j, d)) }) k v
            ∙ opened (one_by (head_lane begun.pending) (ahead begun.pending) c (sym (ap (λ (o : Sender). found (head o.pending)) e) ∙ q) (still_blocked ∙ w))
