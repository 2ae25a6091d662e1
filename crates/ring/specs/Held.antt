-- What a ring in lent cells holds, and what its calls do to that list. In the laws `k` is the slot that the code has computed, and `vs`
-- are the words after a change of that slot.
use Rattle.std.specs.Prelude.{◌≡◌, refl, Bool, ◌||◌, List, [], ◌∷◌, ◌++◌, ℕ, zero, suc, ◌+◌, ◌-◌, ◌%◌, ◌≤◌, ◌<◌, min, length, get_or, set, drop, eqb, Some, None}
use Rattle.std.proofs.Common.{sym, ap, ◌∙◌, mod-lt, not-suc-le-zero, le_of_suc-le-suc, arith}
use Rattle.std.proofs.Math.Option.{Option, none, some}
use Rattle.std.proofs.Math.ListN.{get_elem?}
use Rattle.model.specs.declared.Chunk.{Chunk}
use Rattle.model.specs.Lists.{first, adjust}
use Rattle.model.specs.Flight.{found, has_stream}
use Rattle.rows.specs.Parts.{part}
use Rattle.rows.specs.Turns.{nil_of}
use Rattle.rows.specs.Walks.{some_in}
use Rattle.rows.specs.Rounds.{cell_of, cell_low, round, round_length, round_get, round_set, round_adjust, round_push, round_drop, round_parts}
use Rattle.cells.specs.Slots.{room_of, limit, length_slots}
use Rattle.chunk_slot.specs.Chunks.{chunk_in, chunks, blank_chunk}
use Rattle.ring.specs.declared.Ring.{Ring}

-- the chunks in order: `len` of the slots (all, where that is more), from slot `start` on (modulo their number), and round
abbrev pub held : Ring → List ℕ → List Chunk
held r ws = round r.start r.len (chunks ws)

-- the slot of the i-th; past the end the number of slots, where there is none
abbrev pub slot_of : Ring → List ℕ → ℕ → ℕ
slot_of r ws i = cell_of (room_of ws) r.start r.len i

-- ---- how many there are

pub length_held : (r : Ring) (ws : List ℕ) → length (held r ws) ≡ min r.len (room_of ws)
length_held r ws = round_length (room_of ws) r.start r.len (chunks ws) (length_slots chunk_in ws)

-- a ring of length 0 holds nothing
pub held_none : (r : Ring) (ws : List ℕ) → r.len ≡ 0 → held r ws ≡ []
held_none r ws e = nil_of (held r ws) (omega (arith, length_held r ws))

-- never more than the limit: so sums of 32-bit numbers over them fit 64 bits
pub held_limit : (r : Ring) (ws : List ℕ) → length (held r ws) ≤ limit
held_limit r ws = omega (arith, length_held r ws)

-- ---- the i-th

module _ (r : Ring) (ws : List ℕ) (i k : ℕ) (e : k ≡ slot_of r ws i) where
  pub held_get : get_or (chunks ws) k blank_chunk ≡ get_or (held r ws) i blank_chunk
  held_get =
      ap (λ (j : ℕ). get_or (chunks ws) j blank_chunk) e ∙ round_get (room_of ws) r.start r.len (chunks ws) (length_slots chunk_in ws) i blank_chunk

  pub held_set : (c : Chunk) (vs : List ℕ) → chunks vs ≡ set (chunks ws) k c → held r vs ≡ set (held r ws) i c
  held_set c vs q =
      round_set (room_of ws) r.start r.len (chunks ws) (length_slots chunk_in ws) i c (chunks vs) (q ∙ ap (λ (j : ℕ). set (chunks ws) j c) e)

  pub held_adjust : (f : Chunk → Chunk) (vs : List ℕ) → chunks vs ≡ adjust f k (chunks ws) → held r vs ≡ adjust f i (held r ws)
  held_adjust f vs q =
      round_adjust (room_of ws) r.start r.len (chunks ws) (length_slots chunk_in ws) f i blank_chunk (chunks vs) (q ∙ ap (λ (j : ℕ). adjust f j (chunks ws)) e)

-- ---- a search of all: among the slots from the start on, and past the seam among those from slot 0 on. `cap` is the number that the code
-- has for the room, and `b` what the first search found

module _ (r : Ring) (ws : List ℕ) {n cap s : ℕ} (e : n ≡ length (held r ws)) (k : cap ≡ room_of ws) (q : s ≡ r.start % cap) where
  held_parts : held r ws ≡ part s (s + n) (chunks ws) ++ part 0 (n - (cap - s)) (chunks ws)
  held_parts = round_parts cap r.start r.len (chunks ws) (length_slots chunk_in ws ∙ sym k) n s (omega (arith, length_held r ws)) q

  pub held_stream : (id : ℕ) {b : Bool} → b ≡ has_stream id (part s (s + n) (chunks ws)) → (b || has_stream id (part 0 (n - (cap - s)) (chunks ws))) ≡ has_stream id (held r ws)
  held_stream id h =
      some_in (λ (c : Chunk). eqb c.message.stream id) (part s (s + n) (chunks ws)) (part 0 (n - (cap - s)) (chunks ws)) h ∙ ap (has_stream id) (sym held_parts)

-- ---- one more, some less

-- a longer ring whose last is set
pub held_push : (r : Ring) (ws : List ℕ) (c : Chunk) → r.len < room_of ws → set (held (record { start = r.start; len = r.len + 1 }) ws) r.len c ≡ held r ws ++ (c ∷ [])
held_push r ws c h = round_push (room_of ws) r.start r.len (chunks ws) (length_slots chunk_in ws) c h

-- the k-th slot is the start
pub held_drop : (r : Ring) (ws : List ℕ) (n s k : ℕ) → n ≡ length (held r ws) → s ≡ r.start % room_of ws → k ≤ n → held (record { start = s + k; len = n - k }) ws ≡ drop k (held r ws)
held_drop r ws n s k e q h = round_drop (room_of ws) r.start r.len (chunks ws) (length_slots chunk_in ws) blank_chunk n s k (e ∙ length_held r ws) q h

-- ---- the cases of each

pub get_in : (l : List Chunk) (i : ℕ) → i < length l → Some (get_or l i blank_chunk) ≡ found (get_elem? l i)
get_in [] i h = absurd (not-suc-le-zero h)
get_in (x ∷ l) zero h = refl
get_in (x ∷ l) (suc i) h = get_in l i (le_of_suc-le-suc h)

pub get_out : (l : List Chunk) (i : ℕ) → length l ≤ i → None ≡ found (get_elem? l i)
get_out [] i h = refl
get_out (x ∷ l) zero h = absurd (not-suc-le-zero h)
get_out (x ∷ l) (suc i) h = get_out l i (le_of_suc-le-suc h)

pub get_first : (l : List Chunk) → found (get_elem? l 0) ≡ found (first l)
get_first [] = refl
get_first (x ∷ l) = refl

-- where there is a first, it is in the slot of the start
pub first_at : (r : Ring) (ws : List ℕ) (s : ℕ) → s ≡ r.start % room_of ws → 0 < length (held r ws) → Some (get_or (chunks ws) s blank_chunk) ≡ found (first (held r ws))
first_at r ws s e h =
    let n : 0 < min r.len (room_of ws) = omega (arith, length_held r ws) in
    let z : 0 < room_of ws = omega arith in
    let l : s + 0 < room_of ws = omega (arith, mod-lt r.start z) in
    let k : s ≡ s + 0 = omega arith in
    ap Some (held_get r ws 0 s (k ∙ cell_low (room_of ws) r.start r.len 0 s e n l)) ∙ get_in (held r ws) 0 h ∙ get_first (held r ws)

-- ---- what an answer says of what is there

pub found_none : (o : Option Chunk) → found o ≡ None → o ≡ none
found_none none e = refl
found_none (some d) e = let z : ◌≡◌ {A = ℕ} 0 1 = cc in absurd (omega arith)

pub found_some : (o : Option Chunk) (c : Chunk) → found o ≡ Some c → o ≡ some c
found_some none c e = let z : ◌≡◌ {A = ℕ} 0 1 = cc in absurd (omega arith)
found_some (some d) c e = let q : d ≡ c = cc in ap some q

-- and of a list
pub first_none : (l : List Chunk) → found (first l) ≡ None → l ≡ []
first_none [] e = refl
first_none (x ∷ l) e = let z : ◌≡◌ {A = ℕ} 0 1 = cc in absurd (omega arith)

pub first_one : (l : List Chunk) (c : Chunk) → found (first l) ≡ Some c → l ≡ c ∷ drop 1 l
first_one [] c e = let z : ◌≡◌ {A = ℕ} 0 1 = cc in absurd (omega arith)
first_one (x ∷ l) c e = let q : x ≡ c = cc in ap (λ (y : Chunk). y ∷ l) q
