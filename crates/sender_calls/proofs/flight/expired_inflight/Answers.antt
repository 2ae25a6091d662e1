-- The queue's list, of the whole sender.
use Rattle.sender_calls.specs.Listing.{finds_lent}
use Rattle.sender_calls.proofs.flight.expired_inflight.Goals as goal

pub returns : goal.returns
returns c =
    let a = c.args in
    let k = c.table_words-k.ensures.0 in
    finds_lent a.h.now a.cells.now _ k _ a.clock a.out.now c.expired_inflight.ensures
