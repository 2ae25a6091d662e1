-- The stream found, with another threshold, goes back to its place.
use mathlib.Core.Path.{refl}
use borrow.Author.Rules.{rules}
use Rattle.model.specs.Streams.{thresholds, set_high}
use Rattle.sender_streams.specs.Changes.{settings_told}
use Rattle.sender_streams.proofs.set_high_threshold.Goals as goal

pub returns : goal.returns
unfolding set_high
returns c =
    let a = c.args in
    settings_told a.identifier a.h.now a.cells.now c.change.new.cells (λ t. thresholds t.low a.high t) (λ t. refl) (λ t x u q. search rules) c.change.result c.change.ensures
