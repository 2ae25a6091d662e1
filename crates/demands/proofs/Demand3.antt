-- Demand 3 holds of every state that calls reach from a fresh sender.
use Prim.Native.Nat.{ℕ, suc, ◌+◌, ◌≤◌, ◌<◌}
use native.Mathlib.Omega.{arith}
use mathlib.Core.Path.{◌≡◌, refl, ap, ◌∙◌}
use mathlib.Core.Bool.{Bool}
use mathlib.Core.Option.{Option, some}
use mathlib.Core.List.{List, [], ◌∷◌, map}
use lib.ListN.{length}
use borrow.Author.Tests.{le-ltb, lt-leb}
use Rattle.limits.specs.Limits.{Room, clock_max, tsns}
use Rattle.model.specs.declared.Chunk.{Chunk}
use Rattle.model.specs.State.{Lane, UnderWay, Idle, Sending, Sender, Pending, Numbers, Out, fresh, next_tsn, at, in_rings, with_pending}
use Rattle.model.specs.Lists.{first}
use Rattle.model.specs.Rings.{lane_ahead, head_lane, head, started, send, without}
use Rattle.model.specs.Calls.{Call, Answer, step, run}
use Rattle.demands.specs.Words.{SomePending}
use Rattle.demands.specs.Demand3.{sent_by, FromFresh}
use Rattle.demands.proofs.Views.{Does, does, streams_only, writes, starts, sends, abandons_it, expires_tail, expires_whole, acks, pops, marks}
use Rattle.demands.proofs.Lists.{at_both}
use Rattle.demands.proofs.Ring.{Ring}
use Rattle.demands.proofs.Tsn.{compacted_flight, files_are, tsn_step, terminated, unterminated, yield_found}
use Rattle.demands.proofs.Valid.{Valid, Sound, Waiting, own_ring}
use Rattle.demands.proofs.Steps.{reached}
use Rattle.demands.proofs.Rest.{sent_remaining, sent_in_order}
use Rattle.demands.proofs.Waiting.{unordered_starts_lem, ordered_starts_lem}
use Rattle.std.specs.Prelude.{Some, Ok}

-- ---- the yield

-- something is in front of the ring that is ahead
some_ahead : {room : Room} {f : List Chunk} {k : Numbers} (w : UnderWay) (p : Pending) → Sound room w (λ l. at l p) f k → 0 < length p.unordered + length p.ordered
    → (d : Chunk) × (x : List Chunk) × (at (lane_ahead w p.unordered) p ≡ d ∷ x)
some_ahead (Sending l) p v h = go (at l p) refl (own_ring v)
  where
    go : (y : List Chunk) → at l p ≡ y → Ring (Waiting v.fate v.sheet l) (some v.last) 0 y → (d : Chunk) × (x : List Chunk) × (at l p ≡ d ∷ x)
    go [] e r = absurd r
    go (d ∷ x) e r = (d, x, e)
some_ahead Idle p v h = go p.unordered p.ordered refl refl
  where
    go : (u o : List Chunk) → p.unordered ≡ u → p.ordered ≡ o → (d : Chunk) × (x : List Chunk) × (at (lane_ahead Idle p.unordered) p ≡ d ∷ x)
    go (d ∷ x) o e i = (d, x, rw e)
    go [] (d ∷ x) e i = (d, x, rw e i)
    go [] [] e i = absurd (omega (arith, ap length e, ap length i))

-- a change of single chunks leaves which ring that is
lane_map : (g : Chunk → Chunk) (w : UnderWay) (u : List Chunk) → lane_ahead w (map g u) ≡ lane_ahead w u
lane_map g (Sending l) u = refl
lane_map g Idle [] = refl
lane_map g Idle (c ∷ u) = refl

ahead_map : (g : Chunk → Chunk) (p : Pending) → at (head_lane (in_rings (map g) p)) (in_rings (map g) p) ≡ map g (at (head_lane p) p)
ahead_map g p =
    ap (λ (l : Lane). at l (in_rings (map g) p)) (lane_map g p.under_way p.unordered) ∙ at_both (λ i y. y ≡ map g (at i p)) (map g) p (λ i. refl) (head_lane p)

yields_head : {room : Room} (s : Sender) → Valid room s → (now : ℕ) → now ≤ clock_max → SomePending s → suc (length s.flight.entries) < room.flight
    → (d : Chunk) × (head s.pending ≡ some d) × ((send room now s).says ≡ Ok (Some (next_tsn s, sent_by now s d)))
unfolding send
yields_head {room} s v now h i f =
    let z = some_ahead s.pending.under_way s.pending v i in
    let g : Chunk → Chunk = started now s.numbers.unstarted in
    let y = ahead_map g s.pending ∙ ap (map g) z.2 in
    (z.0, ap first z.2, rw (le-ltb clock_max now h, y, lt-leb room.flight (suc (length s.flight.entries)) f))

-- ---- the oldest TSN is one

oldest_step : (room : Room) (k : Call) (s : Sender) → s.flight.oldest < tsns → (step room k s).after.flight.oldest < tsns
oldest_step room k s h = go _ _ _ _ (does room k s)
  where
    go : (r : Out Answer) (a x : Option ℕ) (b : Bool) → Does room k s r a x b → r.after.flight.oldest < tsns
    go r a x b (streams_only _ _ _ _) = h
    go r a x b (writes _ _ _ _ _ _) = h
    go r a x b (starts _ _ _ _) = h
    go r a x b (sends _ _ _ _ _ _) = h
    go r a x b (abandons_it _ _ _ _ _ _) = h
    go r a x b (expires_tail _ _ _ _ _ _) = h
    go r a x b (expires_whole c _ _ _ _ _) = rw (compacted_flight c.message.unordered c.message.stream (with_pending (without c.message.number s.pending) s)) h
    go r a x b (acks _ _ _ _ _) = h
    go r a x b (pops _ _ _) = omega arith
    go r a x b marks = h

oldest_run : (room : Room) (ks : List Call) (s : Sender) → s.flight.oldest < tsns → (run room ks s).flight.oldest < tsns
oldest_run room [] s h = h
oldest_run room (k ∷ ks) s h = oldest_run room ks (step room k s).after (oldest_step room k s h)

-- ---- all of it

pub from_fresh : FromFresh
from_fresh room h t n o ks =
    let s : Sender = run room ks (fresh t n) in
    let v : Valid room s = reached room t n ks in
    record {
      yield = yields_head s v;
      found = yield_found room s h (oldest_run room ks (fresh t n) o);
      left = sent_remaining s v;
      in_order = sent_in_order s v;
      filed = λ k. files_are room k s;
      next_tsns = λ k. tsn_step room k s;
      terminated = terminated room s;
      unterminated = unterminated room s;
      unordered_starts = unordered_starts_lem s v;
      ordered_starts = ordered_starts_lem s v;
    }
