-- A loop that puts `lowered` of each chunk in its place; the bytes stay.
use Rattle.std.proofs.Common.{refl, ap, arith, rules}
use Rattle.model.specs.Rings.{lowered, bytes}
use Rattle.rows.specs.Turns.{map_turn, map_done}
use Rattle.ring.specs.Held.{held}
use Rattle.pending_queue.specs.Queue.{lowered_bytes}
use Rattle.pending_queue.proofs.PendingQueue.compact_ordered_ssns.Goals as goal

pub loop-i-init : goal.loop-i-init
loop-i-init c = (refl, refl)

pub loop-i-preserved : goal.loop-i-preserved
loop-i-preserved c =
    let a = c.args in
    let t = c.loop-i in
    (search rules, map_turn (lowered a.stream) (held a.self.now.ordered a.ordered.now) t.i t.invariant.1 (omega arith) c.lower_nth.ensures)

pub returns : goal.returns
returns c =
    let a = c.args in
    let t = c.loop-i in
    let l = held a.self.now.ordered a.ordered.now in
    let e = map_done (lowered a.stream) l t.i t.invariant.1 (omega arith) in
    (e, λ u h. omega (arith, h, ap bytes e, lowered_bytes a.stream l))
