-- The bytes that chunks hold together: of joined lists, of changed ones, and of a ring, whose bytes fit 63 bits.
use Rattle.std.specs.Prelude.{◌≡◌, refl, List, [], ◌∷◌, ◌++◌, map, ℕ, suc, ◌+◌, ◌*◌, ◌≤◌, ◌<◌, length, get_or}
use Rattle.std.proofs.Common.{ap, ⊎_elim, arith}
use Rattle.model.specs.declared.Chunk.{Chunk}
use Rattle.model.specs.Rings.{bytes}
use Rattle.rows.specs.View.{lt_or_ge}
use Rattle.cells.specs.Slots.{room_of}
use Rattle.chunk_slot.specs.Chunks.{chunks, blank_chunk, chunk_past}
use Rattle.chunk_slot.specs.Changes.{length_in}
use Rattle.ring.specs.declared.Ring.{Ring}
use Rattle.ring.specs.Held.{held, slot_of, held_get, held_limit}

pub bytes_append : (l m : List Chunk) → bytes (l ++ m) ≡ bytes l + bytes m
bytes_append [] m = omega arith
bytes_append (c ∷ l) m = omega (arith, bytes_append l m)

-- a change that leaves the lengths
pub bytes_map : (f : Chunk → Chunk) → ((c : Chunk) → (f c).length ≡ c.length) → (l : List Chunk) → bytes (map f l) ≡ bytes l
bytes_map f e [] = refl
bytes_map f e (c ∷ l) = omega (arith, e c, bytes_map f e l)

-- a chunk of a slot holds less than 2 ^ 32 bytes
short_in : (k : ℕ) (ws : List ℕ) → (get_or (chunks ws) k blank_chunk).length ≤ 4294967295
short_in k ws = ⊎_elim inside outside (lt_or_ge k (room_of ws))
  where
    inside : k < room_of ws → (get_or (chunks ws) k blank_chunk).length ≤ 4294967295
    inside h = omega (arith, length_in k ws h)

    outside : room_of ws ≤ k → (get_or (chunks ws) k blank_chunk).length ≤ 4294967295
    outside h = omega (arith, ap (λ (c : Chunk). c.length) (chunk_past k ws h))

sum_short : (l : List Chunk) → ((i : ℕ) → (get_or l i blank_chunk).length ≤ 4294967295) → bytes l ≤ length l * 4294967295
sum_short [] h = omega arith
sum_short (c ∷ l) h = omega (arith, h 0, sum_short l (λ (i : ℕ). h (suc i)))

-- so a ring's bytes are below 2 ^ 63, and those of two rings fit 64 bits
pub held_bytes : (r : Ring) (ws : List ℕ) → bytes (held r ws) ≤ 4611686017353646080
held_bytes r ws = omega (arith, held_limit r ws, sum_short (held r ws) each)
  where
    each : (i : ℕ) → (get_or (held r ws) i blank_chunk).length ≤ 4294967295
    each i = omega (arith, ap (λ (c : Chunk). c.length) (held_get r ws i (slot_of r ws i) refl), short_in (slot_of r ws i) ws)
