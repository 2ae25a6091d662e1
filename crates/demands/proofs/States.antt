-- Every state that calls reach is as specs/States.antt says.
use Prim.Native.Nat.{ℕ}
use native.Mathlib.Omega.{arith}
use mathlib.Core.Path.{◌≡◌, refl, sym, ap, subst, ◌∙◌}
use mathlib.Core.Bool.{Bool, false}
use mathlib.Core.Option.{none, some}
use mathlib.Core.List.{List, [], ◌∷◌, ◌++◌}
use lib.Dec.{eqb}
use borrow.Author.Tests.{ne_eqb}
use Rattle.limits.specs.Limits.{Room}
use Rattle.model.specs.declared.Chunk.{Chunk}
use Rattle.model.specs.State.{Lane, Unordered, Ordered, UnderWay, Idle, Sending, Sender, fresh, at, lane_of}
use Rattle.model.specs.declared.Stream.{Stream}
use Rattle.model.specs.Lists.{some_of}
use Rattle.model.specs.Streams.{find}
use Rattle.model.specs.Rings.{lane_ahead, head_lane}
use Rattle.model.specs.Calls.{yes_no, run}
use Rattle.demands.specs.Words.{Each}
use Rattle.demands.specs.States.{IsOpen, Kept, EveryState}
use Rattle.demands.proofs.Each.{each_weaken, each_append}
use Rattle.demands.proofs.Lists.{lists_head}
use Rattle.demands.proofs.Chunks.{Chunked, chunked_seen, reached_chunked}
use Rattle.demands.proofs.Valid.{Valid, starts}
use Rattle.demands.proofs.Runs.{head_run_lem, flight_run_lem, flight_room_lem, whole, partly, head_rest_lem, terminator_room_lem, contiguous, unended, shared, ordered}
use Rattle.demands.proofs.Steps.{reached}

-- with nothing under way the head is in the ordered ring only if the other is empty
idle_ordered : (w : UnderWay) (u : List Chunk) → w ≡ Idle → lane_ahead w u ≡ Ordered → u ≡ []
idle_ordered Idle [] e h = refl
idle_ordered Idle (c ∷ u) e h = let z : ◌≡◌ {A = ℕ} 0 1 = cc in absurd (omega arith)
idle_ordered (Sending l) u e h = let z : ◌≡◌ {A = ℕ} 0 1 = cc in absurd (omega arith)

-- no chunk of a list passes a test
none_of_them : (p : Chunk → Bool) (l : List Chunk) → Each (λ c. p c ≡ false) l → some_of p l ≡ false
none_of_them p [] a = refl
none_of_them p (c ∷ l) a = rw a.0 (none_of_them p l a.1)

-- a chunk of an open stream is of no stream that is not
elsewhere : (id : ℕ) (l : List Stream) (c : Chunk) → find id l ≡ none → IsOpen l c.message → eqb c.message.stream id ≡ false
elsewhere id l c e o =
    ne_eqb c.message.stream id (λ q. let r : find id l ≡ some o.0 = subst (λ (i : ℕ). find i l ≡ some o.0) q o.1 in let z : ◌≡◌ {A = ℕ} 0 1 = cc in omega arith)

kept : (room : Room) (s : Sender) → Valid room s → Chunked room s → Kept room s
kept room s v k =
    record {
      ring_room = v.ring_fits;
      flight_room = flight_room_lem s v;
      stream_room = k.stream_room;
      pending = k.pending;
      flying = k.flying;
      whole = whole s v;
      partly = partly s v;
      head_rest = head_rest_lem s v;
      terminator_room = terminator_room_lem s v;
      contiguous = contiguous s v;
      unended = unended s v;
      shared = shared s v;
      ordered = ordered s v;
      head_run = head_run_lem s v;
      flight_run = flight_run_lem s v;
      ordered_head = λ c e b o.
          let lane : lane_of c.message.unordered ≡ head_lane s.pending = (lists_head _ _ s.pending s.flight.entries c e (record { pending = k.pending; flying = k.flying })).ring in
          idle_ordered s.pending.under_way s.pending.unordered (starts v c e b).idle (sym lane ∙ ap lane_of o);
      seen = chunked_seen room s k;
      unstarted = k.unstarted;
      distinct = k.distinct;
      maxima = k.maxima;
      unopened = λ id e.
          let is : Chunk → Bool = λ c. eqb c.message.stream id in
          let P : Chunk → Type 0 = λ c. is c ≡ false in
          let q : List Chunk = s.pending.unordered ++ s.pending.ordered in
          let f : List Chunk = s.flight.entries in
          let waiting : (l : Lane) → Each P (at l s.pending) = λ l. each_weaken _ P (λ c h. elsewhere id s.streams c e h.of_stream) (at l s.pending) (k.pending l) in
          let flying : Each P f = each_weaken _ P (λ c h. elsewhere id s.streams c e h.of_stream) f k.flying in
          let both : Each P q = each_append P s.pending.unordered s.pending.ordered (waiting Unordered) (waiting Ordered) in
          (ap yes_no (none_of_them is q both), ap yes_no (none_of_them is (q ++ f) (each_append P q f both flying)));
    }

pub every_state : EveryState
every_state room t n ks = kept room (run room ks (fresh t n)) (reached room t n ks) (reached_chunked room t n ks)
