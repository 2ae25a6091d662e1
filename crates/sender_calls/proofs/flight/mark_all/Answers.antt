-- The queue's call, of the whole sender; the table stays.
use Rattle.model.specs.Flight.{mark_all}
use Rattle.sender_head.specs.Lent.{becomes_lent}
use borrow.Author.Rules.{rules}
use Rattle.sender_calls.proofs.flight.mark_all.Goals as goal

pub returns : goal.returns
returns c =
    let a = c.args in
    let k = c.table_words-k.ensures.0 in
    let m = c.mark_all_to_retransmit in
    becomes_lent a.h.now a.cells.now _ k a.h.now.queue m.new.cells (search rules) mark_all m.ensures
