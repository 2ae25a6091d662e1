-- The table came back from a call, and the queue's words stay.
use Rattle.std.specs.Prelude.{◌≡◌, List, ℕ, length}
use Rattle.std.proofs.Common.{ap, ◌∙◌}
use Rattle.model.specs.declared.Stream.{Stream}
use Rattle.model.specs.State.{with_streams}
use Rattle.rows.specs.Parts.{part, patch, patch_own}
use Rattle.rows.specs.Spared.{Stays}
use Rattle.stream_table.specs.Tables.{table_of}
use Rattle.sender_head.specs.declared.Head.{Head}
use Rattle.sender_head.specs.Whole.{Halves, table_words, halves, sender_of, Counted, parts_are, table_back, sender_by, counted_by_lem, other_table}

-- `k` words are the table's, `p` are these words then, and `n` streams are open
module _ (h : Head) (ws p : List ℕ) (k : ℕ) (counted : k ≡ table_words ws) (same : length p ≡ length (part 0 k ws)) (n : ℕ) where
  -- the head then
  abbrev after : Head
  after = record { queue = h.queue; streams = n }

  -- `f` says what became of the table, by its words before
  pub table_changed : (f : List ℕ → List Stream) → table_of n p ≡ f (part 0 k ws) → sender_of after (patch 0 k ws p) ≡ with_streams (f (halves ws).table) (sender_of h ws)
  table_changed f e =
      sender_by after (patch 0 k ws p) (table_back ws k counted p same)
      ∙ other_table h (halves ws) n p (e ∙ ap (λ (c : Halves). f c.table) (parts_are ws k counted))

  -- the counters of bytes are the queue's
  pub counted_still : Counted h ws → Counted after (patch 0 k ws p)
  counted_still q = counted_by_lem after (patch 0 k ws p) (table_back ws k counted p same) q

  -- the table came back as it was
  pub table_stays : Stays h.streams (part 0 k ws) n p → Stays h ws after (patch 0 k ws p)
  table_stays e = (ap (λ (i : ℕ). record { queue = h.queue; streams = i }) e.0, ap (patch 0 k ws) e.1 ∙ patch_own 0 k ws)
