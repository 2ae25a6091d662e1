-- The queue's call, of the whole sender; the table stays.
use Rattle.model.specs.Told.{told_sacked}
use Rattle.model.specs.Sacks.{sack}
use Rattle.sender_head.specs.Whole.{room_in}
use Rattle.sender_head.specs.Lent.{goes_or_stays_lent}
use borrow.Author.Rules.{rules}
use Rattle.sender_calls.proofs.flight.sack.Goals as goal

pub returns : goal.returns
returns c =
    let a = c.args in
    let k = c.table_words-k.ensures.0 in
    let m = c.handle_sack in
    let room = room_in a.cells.now in
    goes_or_stays_lent a.h.now a.cells.now _ k m.new.q m.new.cells (search rules) told_sacked (sack room a.packet.now) (m.ensures room)
