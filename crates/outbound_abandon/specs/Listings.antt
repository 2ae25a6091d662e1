-- The list of expired TSNs, as the model's: the message that is named is the one under way.
use Rattle.std.specs.Prelude.{◌≡◌, refl, ◌≢◌, Bool, true, false, ◌||◌, ℕ, zero, suc, ◌≤◌, ◌<◌, length, get_or, drop, ltb, eqb, Some, None, Ok, Err}
use Rattle.std.proofs.Math.Path.{sym, ap, ap₂}
use Rattle.std.proofs.Common.{◌∙◌, arith, lt-ltb, le-ltb, ltb-true, eq-eqb, eqb-true}
use Rattle.std.proofs.Math.Option.{Option, none, some}
use mathlib.Core.List.{List, [], ◌∷◌, ◌++◌}
use Rattle.limits.specs.Limits.{Room, clock_max}
use Rattle.model.specs.declared.Chunk.{Chunk}
use Rattle.model.specs.State.{Lane, Unordered, Ordered, UnderWay, Idle, Sending, Sender, Flight, lane_of, is_of}
use Rattle.model.specs.Lists.{when◌then◌else◌, keep, some_of}
use Rattle.model.specs.Rings.{Listing, listing, expired_inflight}
use Rattle.model.specs.Flight.{found}
use Rattle.demands.specs.Words.{number_under_way, number_of_head}
use Rattle.demands.specs.States.{Has}
use Rattle.rows.specs.Walks.{some_in}
use Rattle.chunk_slot.specs.Chunks.{blank_chunk}
use Rattle.payload_queue.specs.Queue.{least_due, is_awaited, overdue_tsns, sought_tsns, listed, written}
use Rattle.payload_queue.specs.Dues.{none_due}
use Rattle.payload_queue.specs.Listing.{fits, sought_none, lists_as}
use Rattle.ring.specs.Held.{found_some}
use Rattle.payload_queue.specs.Model.{Names, expired_is}
use Rattle.pending_queue.specs.Queue.{under_way_of}
use Rattle.outbound_queue.specs.Outbound.{Good}
use Rattle.outbound_abandon.specs.LeanListing.{named, lean_list, Lent, listed_in, DoesKept}
use Rattle.limits.specs.declared.Refusal.TheVariants.{BeyondLimit, ListShort}
use Rattle.model.specs.Answers.{Listed}
use Rattle.payload_queue.specs.Queue.{Pending}

-- ---- the message that is named, as code finds it

pub named_none : (w : UnderWay) (h : Option Chunk) → found h ≡ None → None ≡ named (number_of_head w h)
named_none Idle h e = refl
named_none (Sending l) none e = refl
named_none (Sending l) (some c) e = let z : ◌≡◌ {A = ℕ} 0 1 = cc in absurd (omega arith)

named_one : (l : Lane) (h : Option Chunk) (c : Chunk) → found h ≡ Some c → Some c.message.number ≡ named (number_of_head (Sending l) h)
named_one l h c e = sym (ap (λ (o : Option Chunk). named (number_of_head (Sending l) o)) (found_some h c e))

pub named_idle : {b : Bool} (u : Bool) (h : Option Chunk) → b ≡ false → None ≡ named (number_of_head (under_way_of b u) h)
named_idle u h e = sym (ap (λ (t : Bool). named (number_of_head (under_way_of t u) h)) e)

pub named_head : {b : Bool} (u : Bool) (h : Option Chunk) (c : Chunk) → b ≡ true → found h ≡ Some c → Some c.message.number ≡ named (number_of_head (under_way_of b u) h)
named_head u h c e q = named_one (lane_of u) h c q ∙ sym (ap (λ (t : Bool). named (number_of_head (under_way_of t u) h)) e)

-- ---- it is the one that is in flight and pending

-- a message of which there is a chunk
some_has : (n : ℕ) (l : List Chunk) → some_of (is_of n) l ≡ true → Has n l
some_has n [] e = let z : ◌≡◌ {A = ℕ} 0 1 = cc in absurd (omega arith)
some_has n (c ∷ l) e = by (is_of n c) e (some_has n l)
  where
    by : (b : Bool) → (b || some_of (is_of n) l) ≡ true → (some_of (is_of n) l ≡ true → Has n l) → (when b then (c ∷ keep (is_of n) l) else keep (is_of n) l) ≢ []
    by true e h = λ q. let z : ◌≡◌ {A = ℕ} 0 1 = cc in omega arith
    by false e h = h e

or_true : (b : Bool) {d : Bool} → d ≡ true → (b || d) ≡ true
or_true true e = refl
or_true false e = e

-- an entry is of its message
has_at : (l : List Chunk) (i : ℕ) → i < length l → some_of (is_of (get_or l i blank_chunk).message.number) l ≡ true
has_at [] i h = absurd (omega arith)
has_at (c ∷ l) zero h = ap (λ (b : Bool). b || some_of (is_of c.message.number) l) (eq-eqb c.message.number c.message.number refl)
has_at (c ∷ l) (suc i) h = or_true (is_of (get_or l i blank_chunk).message.number c) (has_at l i (omega arith))

-- the message under way is pending
pending_head : (w : UnderWay) (u o : List Chunk) (n : ℕ) → number_under_way (record { under_way = w; unordered = u; ordered = o }) ≡ some n → some_of (is_of n) (u ++ o) ≡ true
pending_head Idle u o n e = let z : none ≡ some n = e in cc
pending_head (Sending Unordered) [] o n e = let z : none ≡ some n = e in cc
pending_head (Sending Unordered) (c ∷ u) o n e =
    let q : some c.message.number ≡ some n = e in
    let k : c.message.number ≡ n = cc in
    ap (λ (b : Bool). b || some_of (is_of n) (u ++ o)) (eq-eqb c.message.number n k)
pending_head (Sending Ordered) u [] n e = let z : none ≡ some n = e in cc
pending_head (Sending Ordered) u (c ∷ o) n e =
    let q : some c.message.number ≡ some n = e in
    let k : c.message.number ≡ n = cc in
    sym (some_in (is_of n) u (c ∷ o) refl) ∙ or_true (some_of (is_of n) u) (ap (λ (b : Bool). b || some_of (is_of n) o) (eq-eqb c.message.number n k))

module _ {room : Room} (s : Sender) (g : Good room s) where
  which : (n : ℕ) → some_of (is_of n) (s.pending.unordered ++ s.pending.ordered) ≡ true → Has n s.flight.entries → number_under_way s.pending ≡ some n
  which n e f = by (some_of (is_of n) s.pending.unordered) refl (some_in (is_of n) s.pending.unordered s.pending.ordered refl ∙ e)
    where
      by : (b : Bool) → some_of (is_of n) s.pending.unordered ≡ b → (b || some_of (is_of n) s.pending.ordered) ≡ true → number_under_way s.pending ≡ some n
      by true e q = g.partly Unordered n (some_has n s.pending.unordered e) f
      by false e q = g.partly Ordered n (some_has n s.pending.ordered q) f

  not_named : (n : ℕ) → some_of (is_of n) (s.pending.unordered ++ s.pending.ordered) ≡ false → (w : Option ℕ) → number_under_way s.pending ≡ w → is_awaited (named w) n ≡ false
  not_named n e none q = refl
  not_named n e (some k) q = by (eqb n k) refl
    where
      by : (b : Bool) → eqb n k ≡ b → b ≡ false
      by true h =
          let z = pending_head s.pending.under_way s.pending.unordered s.pending.ordered n (q ∙ ap some (sym (eqb-true n k h))) in
          sym z ∙ e
      by false h = refl

  names : Names (named (number_under_way s.pending)) s.pending s.flight.entries
  names i h = go (some_of (is_of n) (s.pending.unordered ++ s.pending.ordered)) refl
    where
      n : ℕ
      n = (get_or s.flight.entries i blank_chunk).message.number

      go : (b : Bool) → some_of (is_of n) (s.pending.unordered ++ s.pending.ordered) ≡ b → is_awaited (named (number_under_way s.pending)) n ≡ b
      go true e = ap (λ (w : Option ℕ). is_awaited (named w) n) (which n e (some_has n s.flight.entries (has_at s.flight.entries i h))) ∙ eq-eqb n n refl
      go false e = not_named n e (number_under_way s.pending) refl

-- ---- in a Good state whose bound is one the list is the model's

-- before the bound nothing is overdue
sought_is : (now due : ℕ) (w : Pending) (f : Flight) → due ≤ least_due f.entries → sought_tsns due now w f ≡ overdue_tsns now w f
sought_is now due w f h = by (ltb now due) refl
  where
    by : (b : Bool) → ltb now due ≡ b → (when b then [] else overdue_tsns now w f) ≡ overdue_tsns now w f
    by true e = sym (none_due now w f.oldest f.entries (omega (arith, h, ltb-true now due e)))
    by false e = refl

pub lean_list_lem : (now due n : ℕ) {room : Room} {s : Sender} → due ≤ least_due s.flight.entries → Good room s → lean_list now due n s ≡ expired_inflight now n s
unfolding lean_list expired_inflight
lean_list_lem now due n {room} {s} h g =
    let w = named (number_under_way s.pending) in
    ap (λ (l : List ℕ). when ltb clock_max now then Err BeyondLimit else listing n l) (sought_is now due w s.flight h ∙ expired_is now w s.pending s.flight (names s g))

-- ---- the ways out

-- the answer and the lent list, by the TSNs
listing_is : (ts out : List ℕ) → record { answer = listed ts out; list = written ts out } ≡ listed_in out (listing (length out) ts)
listing_is ts out = by (ltb (length out) (length ts))
  where
    by : (b : Bool) → record { answer = when b then Err ListShort else Ok (length ts); list = when b then out else ts ++ drop (length ts) out } ≡ listed_in out (when b then Err ListShort else Ok ts)
    by true = refl
    by false = refl

module _ (now due : ℕ) (s : Sender) (out : List ℕ) where
  abbrev lists : Bool → Listing
  lists b = when b then Err BeyondLimit else listing (length out) (sought_tsns due now (named (number_under_way s.pending)) s.flight)

  pub list_late : clock_max < now → record { answer = Err BeyondLimit; list = out } ≡ listed_in out (lean_list now due (length out) s)
  unfolding lean_list
  list_late h = sym (ap (λ (b : Bool). listed_in out (lists b)) (lt-ltb clock_max now h))

  -- `w` is what the code names, and `after` what it leaves in the lent list
  pub list_is : now ≤ clock_max → (w : Pending) → w ≡ named (number_under_way s.pending) → {r : Listed} {after : List ℕ} → r ≡ listed (sought_tsns due now w s.flight) out
      → after ≡ written (sought_tsns due now w s.flight) out → record { answer = r; list = after } ≡ listed_in out (lean_list now due (length out) s)
  unfolding lean_list
  list_is h w e q v =
      ap₂ (λ (a : Listed) (l : List ℕ). record { answer = a; list = l }) q v ∙ listing_is (sought_tsns due now w s.flight) out
      ∙ ap (λ (y : Pending). listed_in out (listing (length out) (sought_tsns due now y s.flight))) e
      ∙ sym (ap (λ (b : Bool). listed_in out (lists b)) (le-ltb clock_max now h))

  -- before the bound
  pub list_early : now ≤ clock_max → now < due → record { answer = Ok 0; list = out } ≡ listed_in out (lean_list now due (length out) s)
  list_early h e =
      let w = named (number_under_way s.pending) in
      let p = lists_as out (sought_none due now w s.flight e) (fits [] out (omega arith)) in
      list_is h w refl p.0 p.1

  -- a list by that definition promises what it must: `kept` is more than that the bound is one
  pub finds : {kept : Type 0} {room : Room} {got : Lent} → (kept → due ≤ least_due s.flight.entries) → got ≡ listed_in out (lean_list now due (length out) s)
      → DoesKept kept room s got (listed_in out (lean_list now due (length out) s)) (listed_in out (expired_inflight now (length out) s))
  finds f e = (e, λ k g. e ∙ ap (listed_in out) (lean_list_lem now due (length out) (f k) g))
