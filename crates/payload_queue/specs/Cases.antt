-- The ways out of the calls, over a variable flight.
use Rattle.std.specs.Prelude.{◌≡◌, ℕ, zero, suc, ◌+◌, ◌%◌, Bool, true, false, not, ◌&&◌, ◌||◌, List, [], ◌∷◌, drop, ◌≢◌, slice_index_or, refl, Some, None}
use Rattle.std.proofs.Common.{sym, ap, ◌∙◌, arith, eq-eqb, ne_eqb}
use Rattle.std.proofs.Math.ListN.{get_elem?}
use Rattle.limits.specs.Limits.{tsns}
use Rattle.limits.specs.Moments.{passed}
use Rattle.model.specs.declared.Chunk.{Chunk}
use Rattle.model.specs.Lists.{when◌then◌else◌, first}
use Rattle.model.specs.State.{Flight}
use Rattle.model.specs.Rings.{bytes}
use Rattle.model.specs.Flight.{found}
use Rattle.chunk_slot.specs.Chunks.{blank_chunk}
use Rattle.ring.specs.Held.{first_none}
use Rattle.payload_queue.specs.Queue.{held_in, Pop, popped_of, is_awaited, overdue_entry}
use Rattle.payload_queue.specs.Queue.{Pending}

-- other entries from the same oldest TSN on
pub entries_are : (o : ℕ) {l m : List Chunk} → l ≡ m → ◌≡◌ {A = Flight} (record { oldest = o; entries = l }) (record { oldest = o; entries = m })
entries_are o e = ap (λ (l : List Chunk). record { oldest = o; entries = l }) e

-- ---- acknowledging

-- what a marked entry held
pub held_at : (i : ℕ) (l : List Chunk) → (slice_index_or l i blank_chunk).length ≡ held_in (get_elem? l i)
held_at zero [] = refl
held_at (suc i) [] = refl
held_at zero (c ∷ l) = refl
held_at (suc i) (c ∷ l) = held_at i l

-- ---- pop: another TSN, an empty flight, the oldest

-- what is left holds so much less
pub bytes_rest : (l : List Chunk) {c : Chunk} {m : List Chunk} → l ≡ c ∷ drop 1 l → m ≡ drop 1 l → bytes m + c.length ≡ bytes l
bytes_rest l e q = omega (arith, ap bytes e, ap bytes q)

module _ (t : ℕ) (f : Flight) where
  abbrev stays : Pop
  stays = record { flight = f; front = None }

  pub pop_other : (l : List Chunk) → (t ≢ f.oldest) → stays ≡ popped_of l t f
  pop_other [] n = refl
  pop_other (c ∷ l) n =
      sym (ap (λ (b : Bool). when b then record { flight = record { oldest = (f.oldest + 1) % tsns; entries = l }; front = Some c } else stays) (ne_eqb t f.oldest n))

  pub pop_none : (l : List Chunk) → found (first l) ≡ None → stays ≡ popped_of l t f
  pop_none l e = sym (ap (λ (m : List Chunk). popped_of m t f) (first_none l e))

  pub pop_one : (l : List Chunk) {c : Chunk} → t ≡ f.oldest → l ≡ c ∷ drop 1 l → {m : List Chunk} {n : ℕ} → m ≡ drop 1 l → n ≡ (f.oldest + 1) % tsns
      → record { flight = record { oldest = n; entries = m }; front = Some c } ≡ popped_of l t f
  pop_one l {c} y e r w =
      (λ i. record { flight = record { oldest = w i; entries = r i }; front = Some c })
      ∙ sym (ap (λ (k : List Chunk). popped_of k t f) e ∙ ap (λ (b : Bool). when b then record { flight = record { oldest = (f.oldest + 1) % tsns; entries = drop 1 l }; front = Some c } else stays) (eq-eqb t f.oldest y))

-- ---- expired: abandoned, alive, or by the three tests

module _ (now : ℕ) (w : Pending) (c : Chunk) where
  pub not_abandoned : c.abandoned ≡ true → false ≡ overdue_entry now w c
  unfolding overdue_entry
  not_abandoned a = rw a

  module _ (a : c.abandoned ≡ false) where
    pub alive : passed now c.message.deadline ≡ false → false ≡ overdue_entry now w c
    unfolding overdue_entry
    alive d = rw (a, d)

  -- what the first two tests say, and then the third
  pub overdue_both : {b : Bool} → b ≡ (not c.abandoned && passed now c.message.deadline) → (b && (not c.acked || is_awaited w c.message.number)) ≡ overdue_entry now w c
  unfolding overdue_entry
  overdue_both e = ap (λ (b : Bool). b && (not c.acked || is_awaited w c.message.number)) e ∙ in_turn (not c.abandoned)
    where
      in_turn : (a : Bool) → ((a && passed now c.message.deadline) && (not c.acked || is_awaited w c.message.number)) ≡ (a && (passed now c.message.deadline && (not c.acked || is_awaited w c.message.number)))
      in_turn true = refl
      in_turn false = refl
