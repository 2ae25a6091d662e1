-- The queue's call, of the whole sender; the table stays.
use Rattle.outbound_send.specs.Lean.{lean_start}
use Rattle.model.specs.Rings.{start_lifetimes}
use Rattle.model.specs.Told.{told_done}
use Rattle.sender_head.specs.Lent.{leans_or_stays_lent}
use borrow.Author.Rules.{rules}
use Rattle.sender_calls.proofs.start_lifetimes.Goals as goal

pub returns : goal.returns
returns c =
    let a = c.args in
    let k = c.table_words-k.ensures.0 in
    let m = c.start_timed_messages in
    leans_or_stays_lent a.h.now a.cells.now _ k m.new.q m.new.cells (search rules) told_done (lean_start a.clock) (start_lifetimes a.clock) m.ensures
