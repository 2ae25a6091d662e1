-- The queue's call, of the whole sender; the table stays.
use Rattle.outbound_abandon.specs.LeanExpiry.{lean_expire_tail}
use Rattle.model.specs.Rings.{expire_pending_tail}
use Rattle.model.specs.Told.{told_tail}
use Rattle.sender_head.specs.Lent.{leans_in_or_stays_lent}
use borrow.Author.Rules.{rules}
use Rattle.sender_calls.proofs.expire_pending_tail.Goals as goal

pub returns : goal.returns
returns c =
    let a = c.args in
    let k = c.table_words-k.ensures.0 in
    let m = c.expire_pending_tail in
    leans_in_or_stays_lent a.h.now a.cells.now _ k m.new.q m.new.cells (search rules) told_tail (λ room. lean_expire_tail room a.clock) (λ room. expire_pending_tail a.clock) m.ensures
