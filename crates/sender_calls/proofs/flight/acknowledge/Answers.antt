-- The queue's call, of the whole sender; the table stays.
use Rattle.model.specs.Flight.{acknowledge}
use Rattle.sender_head.specs.Lent.{goes_lent}
use borrow.Author.Rules.{rules}
use Rattle.sender_calls.proofs.flight.acknowledge.Goals as goal

pub returns : goal.returns
returns c =
    let a = c.args in
    let k = c.table_words-k.ensures.0 in
    let m = c.mark_as_acked in
    goes_lent a.h.now a.cells.now _ k m.new.self m.new.cells (search rules) (acknowledge a.tsn) m.ensures
