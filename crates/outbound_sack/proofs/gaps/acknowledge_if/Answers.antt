-- The entry is marked where it stands, or nothing is done.
use Rattle.ring.specs.Held.{held}
use Rattle.outbound_sack.specs.Walks.{not_covered, is_covered}
use Rattle.outbound_sack.proofs.gaps.acknowledge_if.Goals as goal

pub returns-then-not-covered : goal.returns-then-not-covered
returns-then-not-covered c =
    let a = c.args in
    not_covered a.i (held a.ring a.cells.now) (c.if-not-covered.true)

pub returns : goal.returns
returns c =
    let a = c.args in
    let e = c.acknowledge_nth.ensures in
    is_covered a.i (held a.ring a.cells.now) (c.if-not-covered.false) e.0 e.1
