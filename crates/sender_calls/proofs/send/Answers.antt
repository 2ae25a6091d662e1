-- The queue's call, of the whole sender; the table stays.
use Rattle.outbound_send.specs.Lean.{lean_send}
use Rattle.model.specs.Rings.{send}
use Rattle.model.specs.Told.{told_sent}
use Rattle.sender_head.specs.Lent.{leans_in_or_stays_lent}
use borrow.Author.Rules.{rules}
use Rattle.sender_calls.proofs.send.Goals as goal

pub returns : goal.returns
returns c =
    let a = c.args in
    let k = c.table_words-k.ensures.0 in
    let m = c.send_next in
    leans_in_or_stays_lent a.h.now a.cells.now _ k m.new.q m.new.cells (search rules) told_sent (λ room. lean_send room a.clock) (λ room. send room a.clock) m.ensures
