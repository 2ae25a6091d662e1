-- What the first entries hold, read one by one; the flight without them; and what is acknowledged of the others.
use Rattle.std.specs.Prelude.{◌≡◌, ℕ, zero, suc, ◌+◌, ◌-◌, ◌%◌, ◌≤◌, min, Bool, true, false, List, [], ◌∷◌, length, drop, slice_index_or, refl}
use Rattle.std.proofs.Common.{sym, ap, ◌∙◌, add-one, arith, length-drop}
use Rattle.limits.specs.Limits.{tsns}
use Rattle.model.specs.declared.Block.{Block}
use Rattle.model.specs.declared.Chunk.{Chunk}
use Rattle.model.specs.Lists.{when◌then◌else◌, some_of}
use Rattle.model.specs.State.{Flight}
use Rattle.model.specs.Rings.{bytes}
use Rattle.model.specs.Flight.{acknowledged}
use Rattle.model.specs.Sack.{blocks_from, all_within}
use Rattle.demands.specs.Sacks.{inside, gapped, sacked_flight}
use Rattle.demands.proofs.Gaps.{no_gaps}
use Rattle.chunk_slot.specs.Chunks.{blank_chunk}
use Rattle.ring.specs.Held.{held}
use Rattle.payload_queue.specs.declared.PayloadQueue.{PayloadQueue}
use Rattle.payload_queue.specs.Queue.{Becomes, due_of, least_due}

-- the flight without its first k entries
abbrev pub without : (k : ℕ) → Flight → Flight
without k f = record { oldest = (f.oldest + k) % tsns; entries = drop k f.entries }

-- the flight is changed, and holds n bytes less for it
abbrev pub Frees : (Flight → Flight) → PayloadQueue → List ℕ → PayloadQueue → List ℕ → (n : ℕ) → Type 0
Frees change q ws q' ws' n = Becomes change q ws q' ws' × (n + bytes (held q'.ring ws') ≡ bytes (held q.ring ws))

-- ---- the first entries

-- what is left from the i-th on is that one's bytes and what is left behind it; past the end both are 0
bytes_suc : (i : ℕ) (l : List Chunk) → (slice_index_or l i blank_chunk).length + bytes (drop (suc i) l) ≡ bytes (drop i l)
bytes_suc zero [] = refl
bytes_suc (suc i) [] = refl
bytes_suc zero (c ∷ l) = refl
bytes_suc (suc i) (c ∷ l) = bytes_suc i l

pub bytes_turn : (i : ℕ) (l : List Chunk) → (slice_index_or l i blank_chunk).length + bytes (drop (i + 1) l) ≡ bytes (drop i l)
bytes_turn i l = rw add-one (bytes_suc i l)

-- fewer entries have no earlier deadline
pub least_drop : (k : ℕ) (l : List Chunk) → least_due l ≤ least_due (drop k l)
least_drop zero l = omega arith
least_drop (suc k) [] = omega arith
least_drop (suc k) (c ∷ l) = omega (arith, least_drop k l)

-- another oldest TSN, and other entries
pub flight_is : {o p : ℕ} {l m : List Chunk} → o ≡ p → l ≡ m → ◌≡◌ {A = Flight} (record { oldest = o; entries = l }) (record { oldest = p; entries = m })
flight_is e q = λ i. record { oldest = e i; entries = q i }

-- ---- the blocks

-- an entry keeps its deadline
due_stays : (b : Bool) (c : Chunk) → due_of (when b then acknowledged c else c) ≡ due_of c
unfolding due_of
due_stays true c = refl
due_stays false c = refl

pub least_gapped : (bs : List Block) (i : ℕ) (l : List Chunk) → least_due (gapped bs i l) ≡ least_due l
least_gapped bs i [] = refl
least_gapped bs i (c ∷ l) = λ j. min (due_stays (some_of (inside i) bs) c j) (least_gapped bs (suc i) l j)

-- ---- the ways out of an accepted SACK: `f` is the flight without its first k entries

module _ (o k : ℕ) (l : List Chunk) {f : Flight} (e : f ≡ without k (record { oldest = o; entries = l })) where
  pub unchanged : (n : ℕ) (part : List ℕ) → n ≡ 0 → f ≡ sacked_flight k (blocks_from n 0 part) (record { oldest = o; entries = l })
  unchanged n part z =
      e ∙ flight_is refl (sym (ap (λ (m : ℕ). gapped (blocks_from m 0 part) 1 (drop k l)) z ∙ no_gaps 1 (drop k l)))

  -- the blocks are within what is left
  pub within_left : (bs : List Block) → all_within (length l - k) bs ≡ true → all_within (length f.entries) bs ≡ true
  within_left bs w = ap (λ (n : ℕ). all_within n bs) (ap (λ (x : Flight). length x.entries) e ∙ length-drop k l) ∙ w

  pub acknowledged_in : (bs : List Block) {m : List Chunk} → m ≡ gapped bs 1 f.entries → record { oldest = f.oldest; entries = m } ≡ sacked_flight k bs (record { oldest = o; entries = l })
  acknowledged_in bs g = flight_is (ap (λ (x : Flight). x.oldest) e) (g ∙ ap (λ (x : Flight). gapped bs 1 x.entries) e)
