-- The first entries go, and the blocks acknowledge among the others.
use Rattle.std.proofs.Common.{ap, arith}
use Rattle.model.specs.Sack.{blocks_from}
use Rattle.ring.specs.Held.{held}
use Rattle.ring.specs.Sums.{held_bytes}
use Rattle.payload_queue.specs.Queue.{least_due}
use Rattle.payload_queue.specs.Sums.{counted_less}
use Rattle.outbound_sack.specs.Covers.{unchanged, within_left, acknowledged_in, least_gapped}
use Rattle.outbound_sack.proofs.accept.Goals as goal

pub returns-then-count-eq0 : goal.returns-then-count-eq0
returns-then-count-eq0 c =
    let a = c.args in
    let f = c.cover-front.ensures in
    λ w. ((unchanged a.q.now.oldest a.k (held a.q.now.ring a.cells.now) f.0.0 a.count a.part.now c.if-count-eq0.true, f.0.1), f.1)

pub overflow_add-result : goal.overflow_add-result
overflow_add-result c =
    let a = c.args in
    record { fits = omega (arith, c.cover-front.ensures.1, c.acknowledge_blocks-gaps.ensures.1, held_bytes a.q.now.ring a.cells.now) }

pub returns : goal.returns
returns c =
    let a = c.args in
    let ws = a.cells.now in
    let l = held a.q.now.ring ws in
    let bs = blocks_from a.count 0 a.part.now in
    let f = c.cover-front in
    let g = c.acknowledge_blocks-gaps in
    λ w.
    let e = g.ensures.0 (within_left a.q.now.oldest a.k l f.ensures.0.0 bs w) in (
      (
        acknowledged_in a.q.now.oldest a.k l f.ensures.0.0 bs e,
        λ h.
            let k = f.ensures.0.1 h in (
              counted_less f.new.q ws f.new.q.ring g.new.cells g.result _ (omega arith) (omega (arith, g.ensures.1)) (omega arith) k.0,
              omega (arith, k.1, ap least_due e, least_gapped bs 1 (held f.new.q.ring ws)),
            ),
      ),
      omega (arith, f.ensures.1, g.ensures.1),
    )
