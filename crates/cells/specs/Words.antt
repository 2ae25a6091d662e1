-- Numbers and bits in words.
use Rattle.std.specs.Prelude.{◌≡◌, Bool, true, false, ℕ, ◌+◌, ◌*◌, ◌/◌, ◌%◌, ◌≤◌, eqb}
use Rattle.std.proofs.Common.{ap, arith}
pub use Rattle.limits.specs.Flags.{bit_of}

-- ---- two numbers of 32 bits in a word

abbrev pub low_of : ℕ → ℕ
low_of w = w % 4294967296

abbrev pub high_of : ℕ → ℕ
high_of w = w / 4294967296

-- ---- a flag is a bit: 0 or 1 times its unit, a power of 2

-- four flags
abbrev pub flags_of : (a b c d : Bool) → ℕ
flags_of a b c d = bit_of a + bit_of b * 2 + bit_of c * 4 + bit_of d * 8

abbrev pub bit_at : (unit : ℕ) → ℕ → Bool
bit_at unit w = eqb (w / unit % 2) 1

pub bit_small : (b : Bool) → bit_of b ≤ 1
bit_small true = omega arith
bit_small false = omega arith

pub bit_back : (b : Bool) (n : ℕ) → n ≡ bit_of b → eqb n 1 ≡ b
bit_back true n e = ap (λ (k : ℕ). eqb k 1) e
bit_back false n e = ap (λ (k : ℕ). eqb k 1) e
