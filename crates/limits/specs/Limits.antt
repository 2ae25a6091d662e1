-- Document 01, "Numbers".
use Rattle.std.specs.Prelude.{ℕ}

-- the clock, and a deadline that is set directly: 2 ^ 40
abbrev pub clock_max : ℕ
clock_max = 1099511627776

-- intervals, RTO settings and measured round-trip times
abbrev pub setting_max : ℕ
setting_max = 4294967295

-- expiries that a timer counts
abbrev pub count_max : ℕ
count_max = 4294967295

-- bytes of a chunk's payload
abbrev pub payload_max : ℕ
payload_max = 65515

-- the offset at which a message is given
abbrev pub offset_max : ℕ
offset_max = 4294967295

-- the buffered amount of a stream
abbrev pub buffered_max : ℕ
buffered_max = 4294967295

-- the last message number, which no message takes: 2 ^ 64 - 1
abbrev pub number_max : ℕ
number_max = 18446744073709551615

-- how many TSNs there are, and how many SSNs: 2 ^ 32 and 2 ^ 16
abbrev pub tsns : ℕ
tsns = 4294967296

abbrev pub ssns : ℕ
ssns = 65536

-- what a sender is given room for: open streams, bytes of a message, chunks in each ring, entries in flight
pub record Room : Type 0 where
  pub streams : ℕ
  pub message : ℕ
  pub ring : ℕ
  pub flight : ℕ

-- the room of 01
abbrev pub room01 : Room
room01 = record { streams = 64; message = 65536; ring = 256; flight = 256 }
