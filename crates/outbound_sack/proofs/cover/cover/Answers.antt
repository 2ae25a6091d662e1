-- The entries go, and the counter gives back what they held.
use Rattle.std.proofs.Common.{refl, ap, arith}
use Rattle.model.specs.Rings.{bytes}
use Rattle.ring.specs.Held.{held}
use Rattle.payload_queue.specs.Queue.{least_due}
use Rattle.payload_queue.specs.Sums.{counted_less}
use Rattle.outbound_sack.specs.Covers.{flight_is, least_drop}
use Rattle.outbound_sack.proofs.cover.cover.Goals as goal

pub returns : goal.returns
returns c =
    let a = c.args in
    let ws = a.cells.now in
    let n = c.sum-released in
    let rest = c.drop_front in
    let e = ap bytes rest.ensures in (
      (
        flight_is refl rest.ensures,
        λ h. (
          counted_less a.q.now ws rest.new.self ws n.result _ (omega arith) (omega (arith, n.ensures, e)) (omega arith) h.0,
          omega (arith, h.1, ap least_due rest.ensures, least_drop a.k (held a.q.now.ring ws)),
        ),
      ),
      omega (arith, n.ensures, e),
    )
