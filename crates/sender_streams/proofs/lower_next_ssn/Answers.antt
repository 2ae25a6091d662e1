-- The stream found, with the SSN before, goes back to its place; where none is found, nothing changes.
use borrow.Author.Rules.{rules}
use Rattle.sender_streams.specs.Changes.{lowered_told}
use Rattle.sender_streams.proofs.lower_next_ssn.Goals as goal

pub returns : goal.returns
returns c =
    let a = c.args in
    lowered_told a.identifier a.h.now a.cells.now c.change.new.cells (λ t x u q. search rules) c.change.result c.change.ensures
