-- The queue's call, of the whole sender; the table stays.
use Rattle.outbound_abandon.specs.Lean.{lean_abandon}
use Rattle.model.specs.Rings.{abandon}
use Rattle.sender_head.specs.Lent.{leans_in_lent}
use borrow.Author.Rules.{rules}
use Rattle.sender_calls.proofs.abandon.Goals as goal

pub returns : goal.returns
returns c =
    let a = c.args in
    let k = c.table_words-k.ensures.0 in
    let m = c.abandon in
    leans_in_lent a.h.now a.cells.now _ k m.new.q m.new.cells (search rules) (λ room. lean_abandon room a.tsn) (λ room. abandon a.tsn) m.ensures
