-- The peer's SACK, as RFC 9260, section 3.3.4, lays it out: its bytes, and which bytes are one.
use Rattle.std.specs.Prelude.{ℕ, zero, suc, ◌+◌, ◌*◌, Bool, true, ◌&&◌, List, [], ◌∷◌, length, drop, leb, eqb}
use Rattle.octets.specs.Numbers.{byte_at, short_at, long_at}
use Rattle.model.specs.declared.Block.{Block}

-- ---- the layout: type 3, 16 fixed bytes, gap blocks, duplicate TSNs

abbrev pub cumulative_of : List ℕ → ℕ
cumulative_of p = long_at 4 p

abbrev pub block_count : List ℕ → ℕ
block_count p = short_at 12 p

abbrev pub duplicate_count : List ℕ → ℕ
duplicate_count p = short_at 14 p

-- 13: under 16 bytes lent, type wrong, or the length field isn't 16 plus 4 per block and duplicate, or isn't the bytes lent
abbrev pub is_sack : List ℕ → Bool
is_sack p =
    leb 16 (length p) && (eqb (byte_at 0 p) 3 && (eqb (short_at 2 p) (16 + (block_count p + duplicate_count p) * 4) && eqb (short_at 2 p) (length p)))

-- the i-th block of a part that begins with blocks
abbrev pub block_at : (i : ℕ) → List ℕ → Block
block_at i q = record { start = short_at (i * 4) q; end = short_at (i * 4 + 2) q }

-- n blocks from the i-th on
abbrev pub blocks_from : (n i : ℕ) → List ℕ → List Block
blocks_from zero i q = []
blocks_from (suc n) i q = block_at i q ∷ blocks_from n (suc i) q

-- the blocks stand from byte 16 on
abbrev pub blocks_in : List ℕ → List Block
blocks_in p = blocks_from (block_count p) 0 (drop 16 p)

-- ---- 14: a block with start 0, start above end, or end beyond the newest; `left` entries are behind the cumulative TSN

abbrev pub within : (left : ℕ) → Block → Bool
within left b = leb 1 b.start && (leb b.start b.end && leb b.end left)

abbrev pub all_within : (left : ℕ) → List Block → Bool
all_within left [] = true
all_within left (b ∷ l) = within left b && all_within left l
