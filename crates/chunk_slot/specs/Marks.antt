-- The small fields of a chunk share a word, and every such fields come back from their word.
use Rattle.std.specs.Prelude.{◌≡◌, Bool, ℕ, ◌+◌, ◌*◌, ◌/◌, ◌%◌, ◌≤◌, ◌<◌}
use Rattle.std.proofs.Common.{arith}
use Rattle.cells.specs.Words.{bit_of, bit_at, flags_of, bit_small, bit_back}

-- stream, SSN and kind, and a bit for each flag; `timed` and `sent` say that there is a deadline and a since
pub record Marks : Type 0 where
  pub stream : ℕ
  pub ssn : ℕ
  pub kind : ℕ
  pub unordered : Bool
  pub beginning : Bool
  pub ending : Bool
  pub acked : Bool
  pub abandoned : Bool
  pub retransmit : Bool
  pub timed : Bool
  pub sent : Bool

unfoldable pub marks_in : ℕ → Marks
marks_in m =
    record {
      stream = m % 65536;
      ssn = m / 65536 % 65536;
      kind = m / 4294967296 % 256;
      unordered = bit_at 1099511627776 m;
      beginning = bit_at 2199023255552 m;
      ending = bit_at 4398046511104 m;
      acked = bit_at 8796093022208 m;
      abandoned = bit_at 17592186044416 m;
      retransmit = bit_at 35184372088832 m;
      timed = bit_at 70368744177664 m;
      sent = bit_at 140737488355328 m;
    }

unfoldable pub marks_word : Marks → ℕ
marks_word x =
    x.stream + x.ssn * 65536 + x.kind * 4294967296 + flags_of x.unordered x.beginning x.ending x.acked * 1099511627776 + flags_of x.abandoned x.retransmit x.timed x.sent * 17592186044416

-- a word's part, where the bits are numbers; the 16 bits above mean nothing
module _ (n s k u b e a d r t z y : ℕ) (hn : n < 65536) (hs : s < 65536) (hk : k < 256) (hu : u ≤ 1) (hb : b ≤ 1) (he : e ≤ 1) (ha : a ≤ 1) (hd : d ≤ 1) (hr : r ≤ 1) (ht : t ≤ 1) (hz : z ≤ 1) where
  abbrev sum : ℕ
  sum =
      n + s * 65536 + k * 4294967296 + (u + b * 2 + e * 4 + a * 8) * 1099511627776 + (d + r * 2 + t * 4 + z * 8) * 17592186044416 + y * 281474976710656

  record Parts : Type 0 where
    stream : sum % 65536 ≡ n
    ssn : sum / 65536 % 65536 ≡ s
    kind : sum / 4294967296 % 256 ≡ k
    unordered : sum / 1099511627776 % 2 ≡ u
    beginning : sum / 2199023255552 % 2 ≡ b
    ending : sum / 4398046511104 % 2 ≡ e
    acked : sum / 8796093022208 % 2 ≡ a
    abandoned : sum / 17592186044416 % 2 ≡ d
    retransmit : sum / 35184372088832 % 2 ≡ r
    timed : sum / 70368744177664 % 2 ≡ t
    sent : sum / 140737488355328 % 2 ≡ z

  parts : Parts
  parts = record { stream = omega arith; ssn = omega arith; kind = omega arith; unordered = omega arith; beginning = omega arith; ending = omega arith; acked = omega arith; abandoned = omega arith; retransmit = omega arith; timed = omega arith; sent = omega arith }

pub marks_back : (x : Marks) (y : ℕ) → x.stream < 65536 → x.ssn < 65536 → x.kind < 256 → marks_in (marks_word x + y * 281474976710656) ≡ x
unfolding marks_in marks_word
marks_back x y hn hs hk =
    let p =
    parts x.stream x.ssn x.kind (bit_of x.unordered) (bit_of x.beginning) (bit_of x.ending) (bit_of x.acked) (bit_of x.abandoned) (bit_of x.retransmit) (bit_of x.timed) (bit_of x.sent) y hn hs hk
    (bit_small x.unordered) (bit_small x.beginning) (bit_small x.ending) (bit_small x.acked) (bit_small x.abandoned) (bit_small x.retransmit) (bit_small x.timed) (bit_small x.sent) in
    λ i. record {
      stream = p.stream i;
      ssn = p.ssn i;
      kind = p.kind i;
      unordered = bit_back x.unordered _ p.unordered i;
      beginning = bit_back x.beginning _ p.beginning i;
      ending = bit_back x.ending _ p.ending i;
      acked = bit_back x.acked _ p.acked i;
      abandoned = bit_back x.abandoned _ p.abandoned i;
      retransmit = bit_back x.retransmit _ p.retransmit i;
      timed = bit_back x.timed _ p.timed i;
      sent = bit_back x.sent _ p.sent i;
    }
