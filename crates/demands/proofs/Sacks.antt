-- Runs of single calls: where they lead, and that the bytes that they answer are those that the flight holds less.
use mathlib.Core.Path.{◌≡◌, refl, sym, ap, subst, ◌∙◌}
use mathlib.Core.Bool.{Bool, true, false, ◌&&◌}
use mathlib.Core.Option.{Option, none, some}
use mathlib.Core.List.{List, [], ◌∷◌, ◌++◌, map}
use Prim.Native.Nat.{ℕ, zero, suc, ◌+◌, ◌-◌, ◌%◌, ◌≤◌, ◌<◌, max}
use native.Mathlib.Decide.{dec_lt}
use native.Mathlib.Nat.{zero-add, mod-eq_of_lt}
use native.Mathlib.Omega.{arith}
use lib.ListN.{length, get_elem?, drop, length-drop}
use lib.Dec.{leb}
use borrow.Author.Tests.{eq-eqb, leb-true}
use Rattle.limits.specs.Limits.{Room, tsns}
use Rattle.model.specs.declared.Block.{Block}
use Rattle.model.specs.declared.Chunk.{Chunk}
use Rattle.model.specs.Lists.{adjust, total}
use Rattle.model.specs.State.{Sender, with_entries, place, in_flight, Out}
use Rattle.model.specs.Rings.{bytes}
use Rattle.model.specs.Flight.{acknowledged, acknowledging, acknowledge, pop}
use Rattle.model.specs.Calls.{Call, Acknowledge, Pop, Answer, to_find, step, run, answers}
use Rattle.model.specs.Sack.{within, all_within}
use Rattle.model.specs.Sacks.{covered, tsns_from, acknowledged_and_popped, block_calls, bytes_in}
use Rattle.demands.specs.Sacks.{gapped, Accepted}
use Rattle.demands.proofs.Gaps.{acks, block_range, no_gaps, more_gaps}
use Rattle.std.specs.Prelude.{Some}

pub record Goes (room : Room) (ks : List Call) (s s' : Sender) : Type 0 where
  pub after : run room ks s ≡ s'
  pub freed : total bytes_in (answers room ks s) + bytes s'.flight.entries ≡ bytes s.flight.entries

stays : (room : Room) (s : Sender) → Goes room [] s s
stays room s = record { after = refl; freed = omega arith }

-- one call, and then others
one_more : {room : Room} {ks : List Call} {s s' s'' : Sender} (k : Call) → (step room k s).after ≡ s' → bytes_in (step room k s).says + bytes s'.flight.entries ≡ bytes s.flight.entries
    → Goes room ks s' s'' → Goes room (k ∷ ks) s s''
one_more {room} {ks} {s} {s'} {s''} k e f g =
    let a : total bytes_in (answers room ks (step room k s).after) ≡ total bytes_in (answers room ks s') = ap (λ (x : Sender). total bytes_in (answers room ks x)) e in
    record { after = ap (run room ks) e ∙ g.after; freed = omega (arith, a, f, g.freed) }

-- some calls, and then others
pub run_append : (room : Room) (ks js : List Call) (s : Sender) → run room (ks ++ js) s ≡ run room js (run room ks s)
run_append room [] js s = refl
run_append room (k ∷ ks) js s = run_append room ks js (step room k s).after

joined : {room : Room} (ks : List Call) {js : List Call} {s s' s'' : Sender} → Goes room ks s s' → Goes room js s' s'' → Goes room (ks ++ js) s s''
joined {room} ks {js} {s} {s'} {s''} g h =
    record {
      after = run_append room ks js s ∙ ap (run room js) g.after ∙ h.after;
      freed =
          let a = total_append ks s in
          let b = ap (λ (x : Sender). total bytes_in (answers room js x)) g.after in
          omega (arith, a, b, g.freed, h.freed);
    }
  where
    total_append : (ks : List Call) (s : Sender) → total bytes_in (answers room (ks ++ js) s) ≡ total bytes_in (answers room ks s) + total bytes_in (answers room js (run room ks s))
    total_append [] s = omega arith
    total_append (k ∷ ks) s = omega (arith, total_append ks (step room k s).after)

-- ---- a single acknowledgement

abbrev held_in : Option Chunk → ℕ
held_in none = 0
held_in (some c) = c.length

adjust_freed : (i : ℕ) (l : List Chunk) → held_in (get_elem? l i) + bytes (adjust acknowledged i l) ≡ bytes l
adjust_freed zero [] = refl
adjust_freed (suc i) [] = refl
adjust_freed zero (c ∷ l) = omega arith
adjust_freed (suc i) (c ∷ l) = omega (arith, adjust_freed i l)

adjust_none : (i : ℕ) (l : List Chunk) → get_elem? l i ≡ none → adjust acknowledged i l ≡ l
adjust_none zero [] e = refl
adjust_none (suc i) [] e = refl
adjust_none zero (c ∷ l) e = let z : some c ≡ none = e in cc
adjust_none (suc i) (c ∷ l) e = ap (λ (m : List Chunk). c ∷ m) (adjust_none i l e)

-- the entry of a TSN, wherever it is
abbrev acked : (i : ℕ) → Sender → Sender
acked i s = with_entries (adjust acknowledged i s.flight.entries) s

ack_step : (room : Room) (t : ℕ) (s : Sender) → ((step room (Acknowledge t) s).after ≡ acked (place t s.flight) s)
    × (bytes_in (step room (Acknowledge t) s).says + bytes (acked (place t s.flight) s).flight.entries ≡ bytes s.flight.entries)
unfolding acknowledge
ack_step room t s = go (in_flight t s.flight) refl
  where
    go : (o : Option Chunk) → in_flight t s.flight ≡ o → ((acknowledging o t s).after ≡ acked (place t s.flight) s)
        × ((acknowledging o t s).says + bytes (adjust acknowledged (place t s.flight) s.flight.entries) ≡ bytes s.flight.entries)
    go none e =
        let a = adjust_none (place t s.flight) s.flight.entries e in
        (ap (λ (m : List Chunk). with_entries m s) (sym a), zero-add _ ∙ ap bytes a)
    go (some c) e = (refl, ap (λ (o : Option Chunk). held_in o + bytes (adjust acknowledged (place t s.flight) s.flight.entries)) (sym e) ∙ adjust_freed (place t s.flight) s.flight.entries)

-- ---- what a good block is

both : (a b : Bool) → (a && b) ≡ true → (a ≡ true) × (b ≡ true)
both true true e = (refl, refl)
both true false e = (refl, e)
both false b e = (e, let z : false ≡ true = e in cc)

record Good (left : ℕ) (b : Block) : Type 0 where
  low : 1 ≤ b.start
  order : b.start ≤ b.end
  high : b.end ≤ left

good : (left : ℕ) (b : Block) → within left b ≡ true → Good left b
good left b e =
    let p = both (leb 1 b.start) (leb b.start b.end && leb b.end left) e in
    let q = both (leb b.start b.end) (leb b.end left) p.1 in
    record { low = leb-true 1 b.start p.0; order = leb-true b.start b.end q.0; high = leb-true b.end left q.1 }

length_gapped : (bs : List Block) (i : ℕ) (l : List Chunk) → length (gapped bs i l) ≡ length l
length_gapped bs i [] = refl
length_gapped bs i (c ∷ l) = ap suc (length_gapped bs (suc i) l)

-- the TSN that is a behind the oldest stands at place a
place_of : (o a : ℕ) → o < tsns → a < tsns → ((o + a) % tsns + tsns - o) % tsns ≡ a
place_of o a f h = go (dec_lt (o + a) tsns)
  where
    go : Dec (o + a < tsns) → ((o + a) % tsns + tsns - o) % tsns ≡ a
    go (yes k) =
        let e : (o + a) % tsns ≡ o + a = mod-eq_of_lt k in
        let g : o + a + tsns - o ≡ a + tsns = omega arith in
        ap (λ (n : ℕ). (n + tsns - o) % tsns) e ∙ ap (λ (n : ℕ). n % tsns) g ∙ omega arith
    go (no k) =
        let e : (o + a) % tsns ≡ o + a - tsns = omega arith in
        let g : o + a - tsns + tsns - o ≡ a = omega arith in
        ap (λ (n : ℕ). (n + tsns - o) % tsns) e ∙ ap (λ (n : ℕ). n % tsns) g ∙ mod-eq_of_lt h

-- ---- of a sender whose flight is known

module _ (room : Room) (base : Sender) where
  abbrev state : (oldest : ℕ) → List Chunk → Sender
  state o l = record { streams = base.streams; pending = base.pending; flight = record { oldest = o; entries = l }; numbers = base.numbers }

  -- the TSN that is so far behind the oldest
  ack_at : (o i : ℕ) (l : List Chunk) {t : ℕ} {ks : List Call} {s : Sender} → place t (record { oldest = o; entries = l }) ≡ i → Goes room ks (state o (adjust acknowledged i l)) s → Goes room (Acknowledge t ∷ ks) (state o l) s
  ack_at o i l {t} {ks} {s} e g =
      let a = ack_step room t (state o l) in
      one_more (Acknowledge t) (a.0 ∙ ap (λ (j : ℕ). state o (adjust acknowledged j l)) e) (ap (λ (j : ℕ). bytes_in (step room (Acknowledge t) (state o l)).says + bytes (adjust acknowledged j l)) (sym e) ∙ a.1) g

  -- ---- the covered prefix

  pop_step : (o : ℕ) (c : Chunk) (l : List Chunk) → step room (Pop o) (state o (c ∷ l)) ≡ record { after = state ((o + 1) % tsns) l; says = to_find (Some c) }
  unfolding pop
  pop_step o c l = rw (eq-eqb o o refl)

  prefix : (k o : ℕ) (l : List Chunk) → o < tsns → k ≤ length l → Goes room (acknowledged_and_popped (tsns_from k o)) (state o l) (state ((o + k) % tsns) (drop k l))
  prefix zero o l f h = let e : (o + 0) % tsns ≡ o = omega arith in subst (λ (n : ℕ). Goes room [] (state o l) (state n l)) (sym e) (stays room (state o l))
  prefix (suc k) o [] f h = absurd (omega arith)
  prefix (suc k) o (c ∷ l) f h =
      let p = pop_step o (acknowledged c) l in
      let e : ((o + 1) % tsns + k) % tsns ≡ (o + suc k) % tsns = omega arith in
      let g = prefix k ((o + 1) % tsns) l (omega arith) (omega arith) in
      let r = subst (λ (n : ℕ). Goes room (acknowledged_and_popped (tsns_from k ((o + 1) % tsns))) (state ((o + 1) % tsns) l) (state n (drop k l))) e g in
      ack_at o 0 (c ∷ l) (omega arith) (one_more (Pop o) (ap (λ (x : Out Answer). x.after) p) (ap (λ (x : Out Answer). bytes_in x.says + bytes l) p ∙ omega arith) r)

  -- ---- the blocks

  ranged : (n a o : ℕ) (l : List Chunk) → o < tsns → a + n ≤ tsns → Goes room (map Acknowledge (tsns_from n ((o + a) % tsns))) (state o l) (state o (acks n a l))
  ranged zero a o l f h = stays room (state o l)
  ranged (suc n) a o l f h =
      let e : ((o + a) % tsns + 1) % tsns ≡ (o + suc a) % tsns = omega arith in
      let g = ranged n (suc a) o (adjust acknowledged a l) f (omega arith) in
      let r = subst (λ (t : ℕ). Goes room (map Acknowledge (tsns_from n t)) (state o (adjust acknowledged a l)) (state o (acks n (suc a) (adjust acknowledged a l)))) (sym e) g in
      ack_at o a l (place_of o a f (omega arith)) r

  blocks : (bs : List Block) (t o : ℕ) (l : List Chunk) → o ≡ (t + 1) % tsns → length l < tsns → all_within (length l) bs ≡ true → Goes room (block_calls t bs) (state o l) (state o (gapped bs 1 l))
  blocks [] t o l e h w = subst (λ (m : List Chunk). Goes room [] (state o l) (state o m)) (sym (no_gaps 1 l)) (stays room (state o l))
  blocks (b ∷ bs) t o l e h w =
      let p = both (within (length l) b) (all_within (length l) bs) w in
      let g = good (length l) b p.0 in
      let a = b.start - 1 in
      let n = b.end + 1 - b.start in
      let m = gapped (b ∷ []) 1 l in
      let first : (o + a) % tsns ≡ (t + b.start) % tsns = omega (arith, g.low) in
      let many : n ≡ b.end + 1 - max 1 b.start = omega (arith, g.low) in
      let range : acks n a l ≡ m = ap (λ (k : ℕ). acks k a l) many ∙ sym (block_range b 1 l) in
      let r = ranged n a o l (omega arith) (omega (arith, g.low, g.order, g.high)) in
      let r' = subst (λ (k : ℕ). Goes room (map Acknowledge (tsns_from n k)) (state o l) (state o (acks n a l))) first r in
      let r'' = subst (λ (k : List Chunk). Goes room (map Acknowledge (tsns_from n ((t + b.start) % tsns))) (state o l) (state o k)) range r' in
      let i = length_gapped (b ∷ []) 1 l in
      let q = blocks bs t o m e (omega (arith, i)) (ap (λ (k : ℕ). all_within k bs) i ∙ p.1) in
      let q' = subst (λ (k : List Chunk). Goes room (block_calls t bs) (state o m) (state o k)) (more_gaps b bs 1 l) q in
      joined (map Acknowledge (tsns_from n ((t + b.start) % tsns))) r'' q'

-- ---- an accepted SACK

pub accepted : Accepted
accepted room t bs s f g h c w =
    let o = s.flight.oldest in
    let l = s.flight.entries in
    let k = covered t s.flight in
    let p = prefix room s k o l f c in
    let e : (o + k) % tsns ≡ (t + 1) % tsns = omega arith in
    let n = length-drop k l in
    let b = blocks room s bs t ((o + k) % tsns) (drop k l) e (omega (arith, n)) (ap (λ (j : ℕ). all_within j bs) n ∙ w) in
    let j = joined (acknowledged_and_popped (tsns_from k o)) p b in
    record { after = j.after; freed = j.freed }
