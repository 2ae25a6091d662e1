-- The buffered amount of one stream: what a write and a release answer.
use Rattle.std.specs.Prelude.{◌≡◌, Bool, false, ◌&&◌, ℕ, ◌+◌, leb, ltb, ℤ}
use Rattle.std.proofs.Common.{ap}
use Rattle.limits.specs.Limits.{buffered_max}
use Rattle.model.specs.declared.Stream.{Stream}
use Rattle.model.specs.Lists.{when◌then◌else◌}
use Rattle.model.specs.Streams.{accounted, reduced}
use Rattle.model.specs.Messages.{written}

-- the stream behind a write, and whether its amount reached the high threshold
pub record Accepted : Type 0 where
  pub stream : Stream
  pub high : Bool

-- the stream behind a release, and whether its amount fell to the low threshold
pub record Freed : Type 0 where
  pub stream : Stream
  pub low : Bool

-- the amount would pass its limit
abbrev pub overflows : (length : ℕ) → Stream → Bool
overflows l t = ltb buffered_max (t.buffered + l)

-- the amount was below the high threshold and now is not
abbrev pub rises : (after : ℕ) → Stream → Bool
rises n t = ltb t.buffered t.high && leb t.high n

-- the amount was above the low threshold and now is not
abbrev pub falls : (after : ℕ) → Stream → Bool
falls n t = ltb t.low t.buffered && leb n t.low

-- a write; one whose amount would pass the limit changes nothing
abbrev pub accepting : (protocol length : ℕ) → Stream → Accepted
accepting p l t =
    when overflows l t then record { stream = t; high = false } else
    record { stream = written p l t; high = rises (t.buffered + l) t }

-- a release
abbrev pub freeing : ℤ → Stream → Freed
freeing z t =
    record {
      stream = accounted t.ssn (reduced z t.buffered) t.statistics t;
      low = falls (reduced z t.buffered) t;
    }

-- ---- a write

module _ (p l : ℕ) (t : Stream) where
  -- the answer by the test
  abbrev answer : Bool → Accepted
  answer b = when b then record { stream = t; high = false } else record { stream = written p l t; high = rises (t.buffered + l) t }

  -- for a caller who has tested the amount
  pub accepting_fits : overflows l t ≡ false → accepting p l t ≡ record { stream = written p l t; high = rises (t.buffered + l) t }
  accepting_fits e = ap answer e
