-- 6,656 words are 64 streams and 256 slots in each ring and in the flight.
use Rattle.std.specs.Prelude.{◌≡◌, List, ℕ, ◌/◌, min, length}
use Rattle.std.proofs.Common.{arith}
use Rattle.limits.specs.Limits.{room01}
use Rattle.rows.specs.Parts.{part_length}
use Rattle.cells.specs.Slots.{limit}
use Rattle.sender_head.specs.Whole.{table_words, halves, room_in}

-- so such a sender has 01's room
pub sizes : (ws : List ℕ) → length ws ≡ 6656 → room_in ws ≡ room01
sizes ws e =
    let k : table_words ws ≡ 512 = omega arith in
    let t = part_length 0 (table_words ws) ws (omega arith) in
    let q = part_length (table_words ws) (length ws) ws (omega arith) in
    let streams : min (length (halves ws).table / 8) limit ≡ 64 = omega arith in
    let ring : min (length (halves ws).queue / 24) limit ≡ 256 = omega arith in
    λ i. record { streams = streams i; message = 65536; ring = ring i; flight = ring i }
