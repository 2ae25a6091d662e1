-- Numbers of 16 and 32 bits in bytes, the highest first, as the chunks of RFC 9260 have them.
use Rattle.std.specs.Prelude.{◌≡◌, List, [], ◌∷◌, ◌++◌, ℕ, ◌+◌, ◌*◌, ◌/◌, ◌%◌, ◌≤◌, length, get_or, replicate}
use Rattle.std.proofs.Common.{arith}
use Rattle.std.proofs.Math.ListN.{get_or-eq_default}

-- ---- reading: a byte past the end is 0

abbrev pub byte_at : (place : ℕ) → List ℕ → ℕ
byte_at i l = get_or l i 0

abbrev pub short_at : (place : ℕ) → List ℕ → ℕ
short_at i l = byte_at i l * 256 + byte_at (i + 1) l

abbrev pub long_at : (place : ℕ) → List ℕ → ℕ
long_at i l = short_at i l * 65536 + short_at (i + 2) l

-- ---- writing

abbrev pub short_bytes : ℕ → List ℕ
short_bytes n = n / 256 ∷ n % 256 ∷ []

abbrev pub long_bytes : ℕ → List ℕ
long_bytes n = short_bytes (n / 65536) ++ short_bytes (n % 65536)

abbrev pub zeros : (count : ℕ) → List ℕ
zeros n = replicate n 0

-- ---- past the end there is nothing

pub byte_past : (i : ℕ) (l : List ℕ) → length l ≤ i → byte_at i l ≡ 0
byte_past i l h = get_or-eq_default l 0 h

pub short_past : (i : ℕ) (l : List ℕ) → length l ≤ i → short_at i l ≡ 0
short_past i l h = let k : length l ≤ i + 1 = omega arith in omega (arith, byte_past i l h, byte_past (i + 1) l k)

pub long_past : (i : ℕ) (l : List ℕ) → length l ≤ i → long_at i l ≡ 0
long_past i l h = let k : length l ≤ i + 2 = omega arith in omega (arith, short_past i l h, short_past (i + 2) l k)

-- only the upper half is there
pub upper_half : (i : ℕ) (l : List ℕ) → length l ≤ i + 2 → short_at i l * 65536 ≡ long_at i l
upper_half i l h = omega (arith, short_past (i + 2) l h)
