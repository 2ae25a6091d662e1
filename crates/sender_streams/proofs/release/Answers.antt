-- The stream found, with less buffered, goes back to its place.
use borrow.Author.Rules.{rules}
use Rattle.sender_streams.specs.Changes.{release_told}
use Rattle.sender_streams.proofs.release.Goals as goal

pub returns : goal.returns
returns c =
    let a = c.args in
    release_told a.identifier a.h.now a.cells.now c.change.new.cells a.released (λ t x f q. search rules) c.change.result c.change.ensures
