-- What the queue's numbers and the lent cells mean as the model's sender, and what the calls lean on of the states that calls reach.
use Rattle.std.specs.Prelude.{◌≡◌, refl, true, false, not, List, [], ◌∷◌, ℕ, ◌+◌, ◌-◌, ◌*◌, ◌/◌, ◌≤◌, ◌<◌, min, length}
use Rattle.std.proofs.Common.{sym, ap, ap₂, subst, ◌∙◌, arith}
use Rattle.std.proofs.Math.Option.{some}
use Rattle.limits.specs.Limits.{Room}
use Rattle.model.specs.declared.Chunk.{Chunk}
use Rattle.model.specs.State.{Lane, Sender, Pending, Flight, Numbers, fresh, with_streams, at, is_of}
use Rattle.model.specs.declared.Stream.{Stream}
use Rattle.model.specs.Lists.{keep}
use Rattle.model.specs.Rings.{head}
use Rattle.demands.specs.Words.{Each, number_under_way}
use Rattle.demands.specs.States.{Kept, PendingChunk, Contiguous, Ascending, Has, drop_run}
use Rattle.rows.specs.Parts.{part, patch, part_length, patch_length, part_same, part_before, part_after}
use Rattle.cells.specs.Slots.{limit, room_of}
use Rattle.payload_queue.specs.declared.PayloadQueue.{PayloadQueue}
use Rattle.payload_queue.specs.Queue.{flight_of, Counted as FlightCounted}
use Rattle.pending_queue.specs.declared.PendingQueue.{PendingQueue}
use Rattle.pending_queue.specs.Queue.{pending_in, no_pending, Counted as PendingCounted}
use Rattle.outbound_queue.specs.declared.OutboundQueue.{OutboundQueue}

-- ---- the cells: the unordered ring, the ordered ring and the flight, a third each, in whole slots

-- the words of one of them
abbrev pub third : List ℕ → ℕ
third ws = length ws / 24 * 8

pub record Rings : Type 0 where
  pub unordered : List ℕ
  pub ordered : List ℕ
  pub flight : List ℕ

abbrev pub rings_at : (k : ℕ) → List ℕ → Rings
rings_at k ws = record { unordered = part 0 k ws; ordered = part k (k + k) ws; flight = part (k + k) (k + k + k) ws }

abbrev pub rings_in : List ℕ → Rings
rings_in ws = rings_at (third ws) ws

-- how many slots each has
abbrev pub ring_room : List ℕ → ℕ
ring_room ws = min (length ws / 24) limit

-- ---- what they mean

-- the queue with other parts
abbrev pub remade : PendingQueue → PayloadQueue → OutboundQueue → OutboundQueue
remade p f q = record { pending = p; inflight = f; next_message_id = q.next_message_id; next_unstarted_message_id = q.next_unstarted_message_id }

abbrev pub waiting : OutboundQueue → Rings → Pending
waiting q r = pending_in q.pending r.unordered r.ordered

abbrev pub flying : OutboundQueue → Rings → Flight
flying q r = flight_of q.inflight r.flight

abbrev pub sender_in : List Stream → OutboundQueue → Rings → Sender
sender_in ts q r =
    record { streams = ts; pending = waiting q r; flight = flying q r; numbers = record { next = q.next_message_id; unstarted = q.next_unstarted_message_id } }

-- the sender of these streams, which the queue does not know
abbrev pub sender_of : List Stream → OutboundQueue → List ℕ → Sender
sender_of ts q ws = sender_in ts q (rings_in ws)

-- both counters of bytes are sums, and the bound of the deadlines in flight is one
abbrev pub CountedIn : OutboundQueue → Rings → Type 0
CountedIn q r = PendingCounted q.pending r.unordered r.ordered × FlightCounted q.inflight r.flight

abbrev pub Counted : OutboundQueue → List ℕ → Type 0
Counted q ws = CountedIn q (rings_in ws)

-- ---- what code leans on of the states that calls reach: see `Kept` of the demands

pub record Good (room : Room) (s : Sender) : Type 0 where
  pub ordered : (l : Lane) → Ascending 0 (at l s.pending)
  pub numbered : (l : Lane) → Each (λ c. c.message.number < s.numbers.next) (at l s.pending)
  pub head_run : (c : Chunk) → head s.pending ≡ some c → (l : Lane) → keep (λ d. not (is_of c.message.number d)) (at l s.pending) ≡ drop_run c.message.number (at l s.pending)
  pub flight_run : (n : ℕ) → Has n s.flight.entries → (l : Lane) → keep (λ d. not (is_of n d)) (at l s.pending) ≡ drop_run n (at l s.pending)
  pub partly : (l : Lane) (n : ℕ) → Has n (at l s.pending) → Has n s.flight.entries → number_under_way s.pending ≡ some n
  pub head_rest : (c : Chunk) → head s.pending ≡ some c → c.beginning ≡ false → number_under_way s.pending ≡ some c.message.number
  pub terminator_room : (n : ℕ) → number_under_way s.pending ≡ some n → length s.flight.entries < room.flight
  pub contiguous : Contiguous (number_under_way s.pending) s.flight.entries
  pub unended : (n : ℕ) → number_under_way s.pending ≡ some n → Each (λ c. is_of n c ≡ true → c.ending ≡ false) s.flight.entries

each_numbered : (ts : List Stream) (n : Numbers) (l : Lane) (x : List Chunk) → Each (PendingChunk ts n l) x → Each (λ c. c.message.number < n.next) x
each_numbered ts n l [] a = tt
each_numbered ts n l (c ∷ x) a = (a.0.numbered, each_numbered ts n l x a.1)

-- and so it is in all of these
pub kept_good : {room : Room} {s : Sender} → Kept room s → Good room s
kept_good {room} {s} k =
    record {
      ordered = k.ordered;
      numbered = λ l. each_numbered s.streams s.numbers l (at l s.pending) (k.pending l);
      head_run = k.head_run;
      flight_run = k.flight_run;
      partly = k.partly;
      head_rest = k.head_rest;
      terminator_room = k.terminator_room;
      contiguous = k.contiguous;
      unended = k.unended;
    }

-- what a call promises that does less than 01 says: of any state what the code does, and of those that calls reach what 01 says
abbrev pub Does : {A : Type 0} → Room → Sender → (got lean said : A) → Type 0
Does room s got lean said = (got ≡ lean) × (Good room s → got ≡ said)

pub does : {A : Type 0} {room : Room} {s : Sender} {got lean said : A} → (Good room s → lean ≡ said) → got ≡ lean → Does room s got lean said
does h e = (e, λ g. e ∙ h g)

-- ---- a ring came back from a call: `p` are its words then, and the others stay

fits : (n : ℕ) → n / 24 * 8 + n / 24 * 8 + n / 24 * 8 ≤ n
fits n = omega arith

room_of_lem : (ws : List ℕ) (a b : ℕ) → b ≤ length ws → b - a ≡ third ws → room_of (part a b ws) ≡ ring_room ws
room_of_lem ws a b h e =
    let l = part_length a b ws h in
    let q : length (part a b ws) / 8 ≡ length ws / 24 = omega arith in
    ap (λ (n : ℕ). min n limit) q

pub unordered_room : (ws : List ℕ) → room_of (rings_in ws).unordered ≡ ring_room ws
unordered_room ws = room_of_lem ws 0 (third ws) (omega (arith, fits (length ws))) (omega arith)

pub ordered_room : (ws : List ℕ) → room_of (rings_in ws).ordered ≡ ring_room ws
ordered_room ws = room_of_lem ws (third ws) (third ws + third ws) (omega (arith, fits (length ws))) (omega arith)

pub flight_room_lem : (ws : List ℕ) → room_of (rings_in ws).flight ≡ ring_room ws
flight_room_lem ws = room_of_lem ws (third ws + third ws) (third ws + third ws + third ws) (fits (length ws)) (omega arith)

-- `k` are the words of one of them, which the code has counted
module _ (ws p : List ℕ) (k : ℕ) (counted : third ws ≡ k) where
  all_fit : k + k + k ≤ length ws
  all_fit = omega (arith, counted, fits (length ws))

  module _ (a b : ℕ) (ab : a ≤ b) (l : b ≤ length ws) (e : length p ≡ length (part a b ws)) where
    as_long : length p ≡ b - a
    as_long = e ∙ part_length a b ws l

    stays : rings_in (patch a b ws p) ≡ rings_at k (patch a b ws p)
    stays = ap (λ (n : ℕ). rings_at (n / 24 * 8) (patch a b ws p)) (patch_length a b ws p ab l as_long) ∙ ap (λ (n : ℕ). rings_at n (patch a b ws p)) counted

    low : (c d : ℕ) → c ≤ d → d ≤ a → part c d (patch a b ws p) ≡ part c d ws
    low c d cd da = part_before a b ws p ab l as_long c d cd da

    high : (c d : ℕ) → b ≤ c → part c d (patch a b ws p) ≡ part c d ws
    high c d bc = part_after a b ws p ab l as_long c d bc

    here : part a b (patch a b ws p) ≡ p
    here = part_same a b ws p ab l as_long

  unordered_in : length p ≡ length (part 0 k ws) → rings_in (patch 0 k ws p) ≡ record { unordered = p; ordered = (rings_at k ws).ordered; flight = (rings_at k ws).flight }
  unordered_in e =
      let x : 0 ≤ k = omega arith in
      let l : k ≤ length ws = omega (arith, all_fit) in
      let up = high 0 k x l e in
      stays 0 k x l e ∙ (λ i. record { unordered = here 0 k x l e i; ordered = up k (k + k) (omega arith) i; flight = up (k + k) (k + k + k) (omega arith) i })

  ordered_in : length p ≡ length (part k (k + k) ws) → rings_in (patch k (k + k) ws p) ≡ record { unordered = (rings_at k ws).unordered; ordered = p; flight = (rings_at k ws).flight }
  ordered_in e =
      let x : k ≤ k + k = omega arith in
      let l : k + k ≤ length ws = omega (arith, all_fit) in
      stays k (k + k) x l e ∙ (λ i. record {
        unordered = low k (k + k) x l e 0 k (omega arith) (omega arith) i;
        ordered = here k (k + k) x l e i;
        flight = high k (k + k) x l e (k + k) (k + k + k) (omega arith) i;
      })

  flight_in : length p ≡ length (part (k + k) (k + k + k) ws) → rings_in (patch (k + k) (k + k + k) ws p) ≡ record { unordered = (rings_at k ws).unordered; ordered = (rings_at k ws).ordered; flight = p }
  flight_in e =
      let a = k + k in
      let b = k + k + k in
      let x : a ≤ b = omega arith in
      stays a b x all_fit e ∙ (λ i. record {
        unordered = low a b x all_fit e 0 k (omega arith) (omega arith) i;
        ordered = low a b x all_fit e k (k + k) (omega arith) (omega arith) i;
        flight = here a b x all_fit e i;
      })

module _ (ws : List ℕ) where
  abbrev k : ℕ
  k = third ws

  module _ (p : List ℕ) where
    pub unordered_back : length p ≡ length (rings_in ws).unordered → rings_in (patch 0 k ws p) ≡ record { unordered = p; ordered = (rings_in ws).ordered; flight = (rings_in ws).flight }
    unordered_back e = unordered_in ws p k refl e

    pub ordered_back : length p ≡ length (rings_in ws).ordered → rings_in (patch k (k + k) ws p) ≡ record { unordered = (rings_in ws).unordered; ordered = p; flight = (rings_in ws).flight }
    ordered_back e = ordered_in ws p k refl e

    pub flight_back : length p ≡ length (rings_in ws).flight → rings_in (patch (k + k) (k + k + k) ws p) ≡ record { unordered = (rings_in ws).unordered; ordered = (rings_in ws).ordered; flight = p }
    flight_back e = flight_in ws p k refl e

  -- one ring after the other
  module _ (u o : List ℕ) (e : length u ≡ length (rings_in ws).unordered) where
    abbrev once : List ℕ
    once = patch 0 k ws u

    same : third once ≡ k
    same =
        let l : k ≤ length ws = omega (arith, fits (length ws)) in
        ap (λ (n : ℕ). n / 24 * 8) (patch_length 0 k ws u (omega arith) l (e ∙ part_length 0 k ws l))

    as_it_was : rings_at k once ≡ record { unordered = u; ordered = (rings_in ws).ordered; flight = (rings_in ws).flight }
    as_it_was = sym (ap (λ (n : ℕ). rings_at n once) same) ∙ unordered_back u e

    pub other_ring : part k (k + k) once ≡ (rings_in ws).ordered
    other_ring = ap (λ (r : Rings). r.ordered) as_it_was

    pub both_back : length o ≡ length (part k (k + k) once) → rings_in (patch k (k + k) once o) ≡ record { unordered = u; ordered = o; flight = (rings_in ws).flight }
    both_back f = ordered_in once o k same f ∙ ap (λ (r : Rings). record { unordered = r.unordered; ordered = o; flight = r.flight }) as_it_was

-- ---- the rings of the cells then are `r`

pub sender_by : (ts : List Stream) (q : OutboundQueue) (ws : List ℕ) {r : Rings} → rings_in ws ≡ r → sender_of ts q ws ≡ sender_in ts q r
sender_by ts q ws e = ap (sender_in ts q) e

pub counted_by_lem : (q : OutboundQueue) (ws : List ℕ) {r : Rings} → rings_in ws ≡ r → CountedIn q r → Counted q ws
counted_by_lem q ws e k = subst (CountedIn q) (sym e) k

-- ---- a new queue is a fresh sender's

pub new_is : (ts : List Stream) (t n : ℕ) {p : Pending} {f : Flight} → p ≡ no_pending → f ≡ record { oldest = t; entries = [] }
    → record { streams = ts; pending = p; flight = f; numbers = record { next = n; unstarted = n } } ≡ with_streams ts (fresh t n)
new_is ts t n e q = ap₂ (λ (x : Pending) (y : Flight). record { streams = ts; pending = x; flight = y; numbers = record { next = n; unstarted = n } }) e q
