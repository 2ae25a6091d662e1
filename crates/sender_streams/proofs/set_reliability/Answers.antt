-- The stream found, with other settings, goes back to its place.
use mathlib.Core.Path.{refl}
use borrow.Author.Rules.{rules}
use Rattle.model.specs.Streams.{delivering, set_reliability}
use Rattle.sender_streams.specs.Changes.{settings_told}
use Rattle.sender_streams.proofs.set_reliability.Goals as goal

pub returns : goal.returns
unfolding set_reliability
returns c =
    let a = c.args in
    settings_told a.identifier a.h.now a.cells.now c.change.new.cells (delivering a.unordered (record { kind = a.kind; value = a.value })) (λ t. refl) (λ t x u q. search rules) c.change.result c.change.ensures
