-- What was noted is what is walked.
use Rattle.std.proofs.Common.{refl}
use Rattle.model.specs.Sack.{blocks_from}
use Rattle.ring.specs.Held.{held}
use Rattle.outbound_sack.specs.Windows.{blank, walks_noted}
use Rattle.outbound_sack.proofs.gaps.window.Goals as goal

pub returns : goal.returns
unfolding blank
returns c =
    let a = c.args in
    walks_noted (blocks_from a.count 0 a.part.now) a.from a.top _ (held a.ring a.cells.now) refl c.note_ends.ensures c.walk.ensures
