-- The chunk that a slot's words are. Shut: who moves words from slot to slot goes by the chunk.
use Rattle.std.specs.Prelude.{◌≡◌, refl, List, [], ◌∷◌, ℕ, ◌+◌, set, Some, None, Option}
use Rattle.std.proofs.Common.{◌∙◌}
use Rattle.std.proofs.Math.Path.{ap}
use native.Mathlib.Omega.{arith}
use Rattle.model.specs.declared.Chunk.{Chunk}
use Rattle.model.specs.Rings.{sent_at}
use Rattle.cells.specs.Slots.{written, slots_written}
use Rattle.cells.specs.Words.{low_of, high_of, bit_at}
use Rattle.chunk_slot.specs.declared.Words.{Words}
use Rattle.chunk_slot.specs.Marks.{Marks, marks_in}
use Rattle.chunk_slot.specs.Remarks.{with_since}
use Rattle.chunk_slot.specs.Chunks.{chunk_from, chunk_of, chunk_in, chunks}
use Rattle.model.specs.Answers.{Found}

unfoldable pub chunk_for : Words → Chunk
chunk_for w = chunk_of w.number w.deadline w.since w.offset w.types w.sizes w.marks

-- the words of a slot, where there are any
abbrev pub FoundWords : Type 0
FoundWords = Option Words

-- their chunk, or that there is none
abbrev pub found_for : FoundWords → Found
found_for (Some w) = Some (chunk_for w)
found_for None = None

-- ---- in part

pub length_for : (w : Words) → low_of w.sizes ≡ (chunk_for w).length
unfolding chunk_for chunk_from
length_for w = refl

pub ending_for : (w : Words) → bit_at 4398046511104 w.marks ≡ (chunk_for w).ending
unfolding chunk_for chunk_from marks_in
ending_for w = refl

module _ (w : Words) (now : ℕ) where
  abbrev made : (length nsent : ℕ) → Marks → Chunk
  made l n x = chunk_from w.number w.deadline now w.offset (low_of w.types) (high_of w.types) l n x

  -- words with another since, sent once
  pub stamped_for : (m : ℕ) → marks_in m ≡ with_since (marks_in w.marks)
      → chunk_for (record { number = w.number; deadline = w.deadline; since = now; offset = w.offset; types = w.types; sizes = low_of w.sizes + 4294967296; marks = m }) ≡ sent_at now (chunk_for w)
  unfolding chunk_for chunk_from
  stamped_for m e =
      let l = low_of w.sizes in
      let low : low_of (l + 4294967296) ≡ l = omega arith in
      let high : high_of (l + 4294967296) ≡ 1 = omega arith in
      ap (λ (k : ℕ). made k (high_of (l + 4294967296)) (marks_in m)) low ∙ ap (λ (n : ℕ). made l n (marks_in m)) high ∙ ap (made l 1) e

-- ---- in a slot

pub written_for : (i : ℕ) (w : Words) (ws : List ℕ) {vs : List ℕ} → vs ≡ written i (w.number ∷ w.deadline ∷ w.since ∷ w.offset ∷ w.types ∷ w.sizes ∷ w.marks ∷ []) ws
    → chunks vs ≡ set (chunks ws) i (chunk_for w)
unfolding chunk_for
written_for i w ws e =
    ap chunks e ∙ slots_written chunk_in i (w.number ∷ w.deadline ∷ w.since ∷ w.offset ∷ w.types ∷ w.sizes ∷ w.marks ∷ []) ws (omega arith)
