-- Each of the four is of the stream, or the question goes on behind it.
use mathlib.Core.Path.{◌≡◌, refl, sym, ap, ◌∙◌}
use mathlib.Core.Bool.{Bool, true, false, ◌||◌}
use Prim.Native.Nat.{ℕ, ◌+◌, ◌<◌}
use native.Mathlib.Omega.{arith}
use lib.Dec.{eqb}
use Rattle.std.specs.Prelude.{List}
use lib.ListN.{get_or, length}
use borrow.Author.Tests.{eq-eqb, ne_eqb}
use Rattle.model.specs.declared.Chunk.{Chunk}
use Rattle.model.specs.Flight.{has_stream}
use Rattle.rows.specs.Parts.{part}
use Rattle.cells.specs.Slots.{length_slots}
use Rattle.chunk_slot.specs.Chunks.{chunk_in, chunks, blank_chunk}
use Rattle.ring.specs.Streams.{Adds, both_add, one_adds}
use Rattle.ring.proofs.parts.among_four.Goals as goal
use Rattle.ring.proofs.parts.among_four.Goals.{then-stream_at-stream, else-stream_at-stream, then-stream_at-stream-2, else-stream_at-stream-2}

-- whether the i-th chunk is of the stream
abbrev is_there : (id : ℕ) → List Chunk → (i : ℕ) → Bool
is_there id l i = eqb (get_or l i blank_chunk).message.stream id

four : (id i : ℕ) (l : List Chunk) → i + 3 < length l → Adds id i (i + 4) l (((is_there id l i || is_there id l (i + 1)) || is_there id l (i + 2)) || is_there id l (i + 3))
four id i l h =
    let two = both_add id i (i + 1) (i + 2) l _ _ (omega arith) (one_adds id i (i + 1) l refl (omega arith)) (one_adds id (i + 1) (i + 2) l (omega arith) (omega arith)) in
    let three = both_add id i (i + 2) (i + 3) l _ _ (omega arith) two (one_adds id (i + 2) (i + 3) l (omega arith) (omega arith)) in
    both_add id i (i + 3) (i + 4) l _ _ (omega arith) three (one_adds id (i + 3) (i + 4) l (omega arith) (omega arith))

-- one more that is asked, or not
joined : {v a : Bool} (t b : Bool) → a ≡ t → v ≡ (t || b) → v ≡ (a || b)
joined t b e q = q ∙ sym (ap (λ (x : Bool). x || b) e)

pub returns-then-stream_at-stream-3 : goal.returns-then-stream_at-stream-3
returns-then-stream_at-stream-3 c =
    let a = c.args in
    let l = chunks a.cells.now in
    let n = length_slots chunk_in a.cells.now in
    let t = is_there a.stream l in
    let zero : eqb c.stream_at.result a.stream ≡ t a.at = ap (λ (x : ℕ). eqb x a.stream) c.stream_at.ensures in
    let one : c.if-stream_at-stream.value ≡ (t a.at || t (a.at + 1)) = elim c.if-stream_at-stream.branch [ then-stream_at-stream w ↦ joined true _ (sym zero ∙ eq-eqb _ _ w.if-stream_at-stream.true) (w.value-is ∙ eq-eqb _ _ w.if-stream_at-stream.true) | else-stream_at-stream w ↦ joined false _ (sym zero ∙ ne_eqb _ _ w.if-stream_at-stream.false) (w.value-is ∙ ap (λ (x : ℕ). eqb x a.stream) w.stream_at-else-stream_at-stream.ensures) ] in
    let two : c.if-stream_at-stream-2.value ≡ ((t a.at || t (a.at + 1)) || t (a.at + 2)) = elim c.if-stream_at-stream-2.branch [ then-stream_at-stream-2 w ↦ joined true _ (sym one ∙ w.if-stream_at-stream-2.true) (w.value-is ∙ w.if-stream_at-stream-2.true) | else-stream_at-stream-2 w ↦ joined false _ (sym one ∙ w.if-stream_at-stream-2.false) (w.value-is ∙ ap (λ (x : ℕ). eqb x a.stream) w.stream_at-else-stream_at-stream-2.ensures) ] in
    let all : c.if-stream_at-stream-2.value ≡ (((t a.at || t (a.at + 1)) || t (a.at + 2)) || t (a.at + 3)) = joined true _ (sym two ∙ c.if-stream_at-stream-3.true) c.if-stream_at-stream-3.true in
    λ end g. ap (λ (x : Bool). x || has_stream a.stream (part (a.at + 4) end l)) all ∙ four a.stream a.at l (omega arith) end g

pub returns-else-stream_at-stream-3 : goal.returns-else-stream_at-stream-3
returns-else-stream_at-stream-3 c =
    let a = c.args in
    let l = chunks a.cells.now in
    let n = length_slots chunk_in a.cells.now in
    let t = is_there a.stream l in
    let zero : eqb c.stream_at.result a.stream ≡ t a.at = ap (λ (x : ℕ). eqb x a.stream) c.stream_at.ensures in
    let one : c.if-stream_at-stream.value ≡ (t a.at || t (a.at + 1)) = elim c.if-stream_at-stream.branch [ then-stream_at-stream w ↦ joined true _ (sym zero ∙ eq-eqb _ _ w.if-stream_at-stream.true) (w.value-is ∙ eq-eqb _ _ w.if-stream_at-stream.true) | else-stream_at-stream w ↦ joined false _ (sym zero ∙ ne_eqb _ _ w.if-stream_at-stream.false) (w.value-is ∙ ap (λ (x : ℕ). eqb x a.stream) w.stream_at-else-stream_at-stream.ensures) ] in
    let two : c.if-stream_at-stream-2.value ≡ ((t a.at || t (a.at + 1)) || t (a.at + 2)) = elim c.if-stream_at-stream-2.branch [ then-stream_at-stream-2 w ↦ joined true _ (sym one ∙ w.if-stream_at-stream-2.true) (w.value-is ∙ w.if-stream_at-stream-2.true) | else-stream_at-stream-2 w ↦ joined false _ (sym one ∙ w.if-stream_at-stream-2.false) (w.value-is ∙ ap (λ (x : ℕ). eqb x a.stream) w.stream_at-else-stream_at-stream-2.ensures) ] in
    let all : eqb c.stream_at-else-stream_at-stream-3.result a.stream ≡ (((t a.at || t (a.at + 1)) || t (a.at + 2)) || t (a.at + 3)) = joined false _ (sym two ∙ c.if-stream_at-stream-3.false) (ap (λ (x : ℕ). eqb x a.stream) c.stream_at-else-stream_at-stream-3.ensures) in
    λ end g. ap (λ (x : Bool). x || has_stream a.stream (part (a.at + 4) end l)) all ∙ four a.stream a.at l (omega arith) end g
