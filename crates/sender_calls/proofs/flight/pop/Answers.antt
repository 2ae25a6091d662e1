-- The queue's call, of the whole sender.
use Rattle.model.specs.Flight.{pop}
use Rattle.sender_head.specs.Lent.{goes_read}
use Rattle.sender_calls.proofs.flight.pop.Goals as goal

pub returns : goal.returns
returns c =
    let a = c.args in
    let k = c.table_words-k.ensures.0 in
    let m = c.pop in
    goes_read a.h.now a.cells.now _ k m.new.self (pop a.tsn) m.ensures
