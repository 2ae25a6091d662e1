-- Whether a stream stands among chunks, asked of one after the other.
use Rattle.std.specs.Prelude.{◌≡◌, refl, Bool, true, false, ◌||◌, List, ℕ, ◌+◌, ◌≤◌, ◌<◌, length, get_or, eqb}
use Rattle.std.proofs.Common.{sym, ap, ◌∙◌, arith}
use Rattle.model.specs.declared.Chunk.{Chunk}
use Rattle.model.specs.Flight.{has_stream}
use Rattle.rows.specs.Parts.{part}
use Rattle.rows.specs.Turns.{part_turn}
use Rattle.chunk_slot.specs.Chunks.{blank_chunk}

-- `b` is what is found from place i on and before place j: with what is found from there on, up to any end, it is what is found from i on
abbrev pub Adds : (stream i j : ℕ) → List Chunk → Bool → Type 0
Adds id i j l b = (end : ℕ) → j ≤ end → (b || has_stream id (part j end l)) ≡ has_stream id (part i end l)

-- what is found in two parts that follow one another
pub both_add : (id i j k : ℕ) (l : List Chunk) (a b : Bool) → j ≤ k → Adds id i j l a → Adds id j k l b → Adds id i k l (a || b)
both_add id i j k l true b h p q = λ end g. p end (omega arith)
both_add id i j k l false b h p q = λ end g. q end g ∙ p end (omega arith)

-- one chunk
pub one_adds : (id i j : ℕ) (l : List Chunk) → j ≡ i + 1 → i < length l → Adds id i j l (eqb (get_or l i blank_chunk).message.stream id)
one_adds id i j l q h = λ end g. (λ k. eqb (get_or l i blank_chunk).message.stream id || has_stream id (part (q k) end l)) ∙ sym (ap (has_stream id) (part_turn l i end blank_chunk refl (omega arith)))
