-- The bytes that entries hold together fit 64 bits, and the counter follows them. In the laws `g` and `vs` are the ring and the words after
-- a call, and `n` the bytes that came or went.
use Rattle.std.specs.Prelude.{◌≡◌, ℕ, zero, suc, ◌+◌, ◌%◌, ◌^◌, ◌<◌, Bool, true, false, List, [], ◌∷◌, ◌++◌, map, length, nat_lt, slice_index_or, refl}
use Rattle.std.proofs.Common.{ap, ◌∙◌, arith}
use Rattle.model.specs.declared.Chunk.{Chunk}
use Rattle.model.specs.Lists.{when◌then◌else◌, adjust}
use Rattle.model.specs.Rings.{bytes}
use Rattle.model.specs.Flight.{acknowledged, to_retransmit}
use Rattle.chunk_slot.specs.Chunks.{blank_chunk}
use Rattle.ring.specs.declared.Ring.{Ring}
use Rattle.rows.specs.Joins.{pushed}
use Rattle.ring.specs.Held.{held}
use Rattle.ring.specs.Sums.{bytes_append, bytes_map, held_bytes}
use Rattle.payload_queue.specs.declared.PayloadQueue.{PayloadQueue}
use Rattle.payload_queue.specs.Queue.{Summed}

-- ---- they fit

pub bytes_fit : (r : Ring) (ws : List ℕ) → bytes (held r ws) < 18446744073709551616
bytes_fit r ws = omega (arith, held_bytes r ws)

-- ---- what a change of the entries does to the sum

pub bytes_pushed : (room : ℕ) (l : List Chunk) (c : Chunk) → nat_lt (length l) room ≡ true → bytes (pushed room l c) ≡ bytes l + c.length
bytes_pushed room l c e = ap (λ (b : Bool). bytes (when b then l ++ (c ∷ []) else l)) e ∙ omega (arith, bytes_append l (c ∷ []))

pub bytes_stay : (room : ℕ) (l : List Chunk) (c : Chunk) → nat_lt (length l) room ≡ false → bytes (pushed room l c) ≡ bytes l
bytes_stay room l c e = ap (λ (b : Bool). bytes (when b then l ++ (c ∷ []) else l)) e

pub bytes_acked : (i : ℕ) (l : List Chunk) → bytes (adjust acknowledged i l) + (slice_index_or l i blank_chunk).length ≡ bytes l
bytes_acked zero [] = refl
bytes_acked (suc i) [] = refl
bytes_acked zero (c ∷ l) = omega arith
bytes_acked (suc i) (c ∷ l) = omega (arith, bytes_acked i l)

pub bytes_marked : (l : List Chunk) → bytes (map to_retransmit l) ≡ bytes l
bytes_marked l = bytes_map to_retransmit (λ (c : Chunk). refl) l

-- ---- so the counter follows

module _ (q : PayloadQueue) (ws : List ℕ) (g : Ring) (vs : List ℕ) (n r : ℕ) where
  pub counted_more : bytes (held g vs) ≡ bytes (held q.ring ws) + n → r ≡ (q.bytes + n) % 2 ^ 64 → Summed q ws → r ≡ bytes (held g vs)
  counted_more e s h = omega (arith, bytes_fit g vs)

  pub counted_less : r < 18446744073709551616 → bytes (held g vs) + n ≡ bytes (held q.ring ws) → (r + n) % 2 ^ 64 ≡ q.bytes → Summed q ws → r ≡ bytes (held g vs)
  counted_less f e s h = omega (arith, bytes_fit q.ring ws)
