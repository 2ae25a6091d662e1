-- Every call keeps the invariant, what was over stays over, and what a call abandons is over.
use Prim.Native.Nat.{ℕ}
use native.Mathlib.Nat.{le_refl}
use native.Mathlib.Omega.{arith}
use mathlib.Core.Path.{◌≡◌, refl, ap, subst}
use mathlib.Core.Bool.{Bool, true, false, not, ◌&&◌}
use mathlib.Core.Option.{Option, none, some}
use mathlib.Core.List.{List, [], ◌∷◌, map}
use lib.Dec.{leb}
use borrow.Author.Tests.{not-true}
use Rattle.limits.specs.Limits.{Room}
use Rattle.model.specs.declared.Chunk.{Chunk}
use Rattle.model.specs.Lists.{adjust}
use Rattle.model.specs.State.{Sender, Out, fresh, place, lane_of}
use Rattle.model.specs.Messages.{message_of, is_unordered, pieces}
use Rattle.model.specs.Rings.{with_lifetimes, overdue}
use Rattle.model.specs.Flight.{acknowledged, to_retransmit}
use Rattle.model.specs.Calls.{Call, Answer, step, run}
use Rattle.demands.specs.Words.{abandons}
use Rattle.demands.proofs.Basic.{and_l}
use Rattle.demands.proofs.Views.{Does, does, streams_only, writes, starts, sends, abandons_it, expires_tail, expires_whole, acks, pops, marks}
use Rattle.demands.proofs.Valid.{Valid, over, rank, StepIn, EndsIn, valid_fresh, take_core, start_core, push_core, expire_core, abandon_core, flight_core, pop_core, like_marked, alike_map, alike_adjust, in_flight_lem, flew_begun, continues}

module _ {room : Room} (s : Sender) (v : Valid room s) where
  -- what a call that abandons x leaves
  abbrev Keeps : Option ℕ → Sender → Type 0
  Keeps x t = (g : StepIn v t) × ((n : ℕ) → x ≡ some n → g.ok.fate n ≡ over)

  -- it abandons nothing
  stays : (t : Sender) → StepIn v t → Keeps none t
  stays t g = (g, λ n e. let z : ◌≡◌ {A = ℕ} 0 1 = cc in absurd (omega arith))

  -- it abandons m
  ends : (m : ℕ) (t : Sender) → EndsIn v m t → Keeps (some m) t
  ends m t g = (g.0, λ n e. let q : m ≡ n = cc in subst (λ (i : ℕ). g.0.ok.fate i ≡ over) q g.1)

  pub keeps : (k : Call) → Keeps (abandons k s) (step room k s).after
  keeps k = go _ _ _ _ (does room k s)
    where
      f : List Chunk
      f = s.flight.entries

      go : (r : Out Answer) (a x : Option ℕ) (b : Bool) → Does room k s r a x b → Keeps a r.after
      go r a x b (streams_only _ _ _ _) = stays r.after (record { ok = v; stays = λ n e. e })
      go r a x b (writes p o len t _ h) =
          stays r.after (push_core s.pending v (lane_of (is_unordered p t)) (message_of p s.numbers.next t) (pieces len t.maximum) t.maximum o len refl h.fits)
      go r a x b (starts now _ _ _) = stays r.after (start_core s.pending v now)
      go r a x b (sends now c rs _ e h) =
          let g = start_core s.pending v now in
          let t = take_core (with_lifetimes now s).pending g.ok c rs now e (le_refl _) h in
          stays r.after (record { ok = t.ok; stays = λ n q. t.stays n (g.stays n q) })
      go r a x b (abandons_it c t _ _ e _) =
          ends c.message.number r.after (abandon_core s.pending v c.message.number (flew_begun (in_flight_lem v (place t s.flight) c e).flew))
      go r a x b (expires_tail c now _ _ e h) =
          let q = (continues v c e (not-true c.beginning (and_l (not c.beginning) (overdue now c) h))).sends in
          ends c.message.number r.after (abandon_core s.pending v c.message.number (omega (arith, ap rank q)))
      go r a x b (expires_whole c now _ _ e h) =
          stays r.after (expire_core s v c e (and_l c.beginning (leb 1 c.length && overdue now c) h) c.message.unordered c.message.stream).0
      go r a x b (acks t _ _ _ _) =
          stays r.after (flight_core v (adjust acknowledged (place t s.flight) f) (alike_adjust acknowledged (λ c. like_marked c 0 true c.abandoned false) (place t s.flight) f))
      go r a x b (pops c g e) = stays r.after (pop_core v c g e)
      go r a x b marks = stays r.after (flight_core v (map to_retransmit f) (alike_map to_retransmit (λ c. like_marked c c.length c.acked c.abandoned _) f))

pub runs : {room : Room} (ks : List Call) (s : Sender) (v : Valid room s) → StepIn v (run room ks s)
runs [] s v = record { ok = v; stays = λ n e. e }
runs {room} (k ∷ ks) s v =
    let g = (keeps s v k).0 in
    let r = runs ks (step room k s).after g.ok in
    record { ok = r.ok; stays = λ n e. r.stays n (g.stays n e) }

-- it holds after any calls of a fresh sender
pub reached : (room : Room) (t n : ℕ) (ks : List Call) → Valid room (run room ks (fresh t n))
reached room t n ks = (runs ks (fresh t n) (valid_fresh room t n)).ok
