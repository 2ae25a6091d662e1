-- The queue came back from the push; the table stays.
use mathlib.Core.Path.{sym, ap₂, ◌∙◌}
use Prim.Native.Nat.{ℕ}
use lib.ListN.{length}
use Rattle.model.specs.declared.Message.{Message}
use Rattle.model.specs.Told.{told_done}
use Rattle.rows.specs.Parts.{part}
use Rattle.outbound_queue.specs.Outbound.{ring_room}
use Rattle.outbound_send.specs.Pushes.{pushing}
use Rattle.sender_head.specs.Whole.{sender_of}
use Rattle.sender_head.specs.Lent.{lent_room, goes_or_stays_lent}
use borrow.Author.Rules.{rules}
use Rattle.sender_write.proofs.enqueue.Goals as goal

pub returns : goal.returns
returns c =
    let a = c.args in
    let m = c.push in
    let w = c.table_words-k in
    let ws = a.cells.now in
    let x = c.message-message in
    let g = goes_or_stays_lent a.h.now ws w.result w.ensures.0 m.new.q m.new.cells (search rules) told_done (pushing (ring_room (part w.result (length ws) ws)) x.result a.stream.now.maximum a.offset a.length) m.ensures in
    ((g.0.0 ∙ ap₂ (λ (room : ℕ) (y : Message). pushing room y a.stream.now.maximum a.offset a.length (sender_of a.h.now ws)) (sym (lent_room a.h.now ws w.result w.ensures.0)) x.ensures, g.0.1), g.1)
