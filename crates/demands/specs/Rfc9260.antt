-- Fragmenting against RFC 9260, as 01 writes it out.
use Rattle.std.specs.Prelude.{ℕ, suc, ◌+◌, ◌-◌, ◌*◌, ◌/◌, ◌%◌, ◌≤◌, ◌<◌, ◌≡◌, Bool, length, eqb}
use Rattle.std.proofs.Math.Option.{some}
use Rattle.std.proofs.Math.ListN.{get_elem?}
use Rattle.model.specs.declared.Chunk.{Chunk}
use Rattle.model.specs.declared.Stream.{Stream}
use Rattle.model.specs.Lists.{when◌then◌else◌}
use Rattle.model.specs.Messages.{piece, message_of, fragments, flags}
use Rattle.model.specs.Rings.{bytes}

-- n is ceil (l / m)
pub record Ceiling (l m n : ℕ) : Type 0 where
  pub enough : l ≤ n * m
  pub no_more : (k : ℕ) → l ≤ k * m → n ≤ k

-- Fragment i of n: all of one message, so U on all or none and one SSN; offsets contiguous; M bytes but for the last, which has the
-- rest; B on the first only, E on the last only.
pub record Fragmented (p number offset len : ℕ) (t : Stream) : Type 0 where
  pub count : Ceiling len t.maximum (length (fragments p number offset len t))
  pub fragment : (i : ℕ) → i < length (fragments p number offset len t) →
      let last = eqb (suc i) (length (fragments p number offset len t)) in
      get_elem? (fragments p number offset len t) i
      ≡ some (piece (message_of p number t) (eqb i 0) last (offset + i * t.maximum) (when last then len - i * t.maximum else t.maximum))
  pub sizes : bytes (fragments p number offset len t) ≡ len

abbrev pub Fragmenting : Type 0
Fragmenting = (p number offset len : ℕ) (t : Stream) → 1 ≤ t.maximum → Fragmented p number offset len t

-- the flags octet: bit 0 is E, bit 1 is B, bit 2 is U, and no other bit is set
abbrev pub bit : Bool → ℕ
bit b = when b then 1 else 0

abbrev pub FlagsOctet : Type 0
FlagsOctet = (c : Chunk) → (flags c % 2 ≡ bit c.ending) × (flags c / 2 % 2 ≡ bit c.beginning) × (flags c / 4 ≡ bit c.message.unordered)
