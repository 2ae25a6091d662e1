-- What the head's numbers and the lent cells mean as the model's sender; and the sender once a part of the cells came back from a call.
use Rattle.std.specs.Prelude.{◌≡◌, List, ℕ, ◌-◌, ◌≤◌, min, length}
use Rattle.std.proofs.Common.{sym, ap, subst, ◌∙◌, arith}
use Rattle.limits.specs.Limits.{Room, room01}
use Rattle.model.specs.declared.Stream.{Stream}
use Rattle.model.specs.State.{Sender, with_streams}
use Rattle.rows.specs.Parts.{part, patch, part_length, patch_length, part_same, part_before, part_after}
use Rattle.cells.specs.Slots.{room_of}
use Rattle.stream_table.specs.Tables.{table_of}
use Rattle.outbound_queue.specs.Outbound as Queue
use Rattle.sender_head.specs.declared.Head.{Head}

-- ---- the cells: the words of 64 streams, and behind them those of the queue

abbrev pub table_words : List ℕ → ℕ
table_words ws = min (length ws) 512

pub record Halves : Type 0 where
  pub table : List ℕ
  pub queue : List ℕ

abbrev pub halves_at : (k n : ℕ) → List ℕ → Halves
halves_at k n ws = record { table = part 0 k ws; queue = part k n ws }

abbrev pub halves : List ℕ → Halves
halves ws = halves_at (table_words ws) (length ws) ws

-- what they have room for; the longest message is 01's
abbrev pub room_in : List ℕ → Room
room_in ws =
    record { streams = room_of (halves ws).table; message = room01.message; ring = Queue.ring_room (halves ws).queue; flight = Queue.ring_room (halves ws).queue }

-- ---- what they mean

abbrev pub sender_in : Head → Halves → Sender
sender_in h c = Queue.sender_of (table_of h.streams c.table) h.queue c.queue

abbrev pub sender_of : Head → List ℕ → Sender
sender_of h ws = sender_in h (halves ws)

-- the counters of bytes are sums, and the bound of the deadlines in flight is one
abbrev pub Counted : Head → List ℕ → Type 0
Counted h ws = Queue.Counted h.queue (halves ws).queue

-- ---- a half came back from a call: `p` are its words then, and the other stays. `k` is where the queue begins, as code counts it

module _ (ws : List ℕ) (k : ℕ) (counted : k ≡ table_words ws) where
  begins : k ≤ length ws
  begins = omega (arith, counted)

  pub parts_are : record { table = part 0 k ws; queue = part k (length ws) ws } ≡ halves ws
  parts_are = ap (λ (i : ℕ). halves_at i (length ws) ws) counted

  module _ (p : List ℕ) where
    as_before : (vs : List ℕ) → length vs ≡ length ws → halves vs ≡ halves_at k (length ws) vs
    as_before vs e = ap (λ (n : ℕ). halves_at (min n 512) n vs) e ∙ ap (λ (i : ℕ). halves_at i (length ws) vs) (sym counted)

    pub table_back : length p ≡ length (part 0 k ws) → halves (patch 0 k ws p) ≡ record { table = p; queue = (halves ws).queue }
    table_back e =
        let x : 0 ≤ k = omega arith in
        let l : length p ≡ k - 0 = e ∙ part_length 0 k ws begins in
        as_before (patch 0 k ws p) (patch_length 0 k ws p x begins l)
        ∙ (λ i. record { table = part_same 0 k ws p x begins l i; queue = part_after 0 k ws p x begins l k (length ws) (omega arith) i })
        ∙ ap (λ (h : Halves). record { table = p; queue = h.queue }) parts_are

    pub queue_back : length p ≡ length (part k (length ws) ws) → halves (patch k (length ws) ws p) ≡ record { table = (halves ws).table; queue = p }
    queue_back e =
        let n = length ws in
        let x : n ≤ n = omega arith in
        let l : length p ≡ n - k = e ∙ part_length k n ws x in
        as_before (patch k n ws p) (patch_length k n ws p begins x l)
        ∙ (λ i. record { table = part_before k n ws p begins x l 0 k (omega arith) (omega arith) i; queue = part_same k n ws p begins x l i })
        ∙ ap (λ (h : Halves). record { table = h.table; queue = p }) parts_are

-- ---- the halves of the cells then are `c`

pub sender_by : (h : Head) (ws : List ℕ) {c : Halves} → halves ws ≡ c → sender_of h ws ≡ sender_in h c
sender_by h ws e = ap (sender_in h) e

pub counted_by_lem : (h : Head) (ws : List ℕ) {c : Halves} → halves ws ≡ c → Queue.Counted h.queue c.queue → Counted h ws
counted_by_lem h ws e k = subst (λ (c : Halves). Queue.Counted h.queue c.queue) (sym e) k

-- the table has other streams
pub other_table : (h : Head) (c : Halves) (n : ℕ) (table : List ℕ) {ts : List Stream} → table_of n table ≡ ts
    → sender_in (record { queue = h.queue; streams = n }) (record { table = table; queue = c.queue }) ≡ with_streams ts (sender_in h c)
other_table h c n table e = ap (λ (ts : List Stream). Queue.sender_of ts h.queue c.queue) e
