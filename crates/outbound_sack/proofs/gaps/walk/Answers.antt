-- Between two turns `Going` holds.
use Rattle.std.proofs.Common.{◌≡◌, ◌+◌, ◌-◌, ◌<◌, min, length, refl, arith, rules}
use Rattle.ring.specs.Sums.{held_bytes}
use Rattle.ring.specs.Held.{held}
use Rattle.outbound_sack.specs.Walks.{going_start, going_turn, going_done, as_many}
use Rattle.outbound_sack.proofs.gaps.walk.Goals as goal

pub loop-i-init : goal.loop-i-init
loop-i-init c = (refl, going_start _ _ _ _)

pub overflow_add-sum : goal.overflow_add-sum
overflow_add-sum c =
    let a = c.args in
    let l = c.loop-i in
    record { fits = omega (arith, c.acknowledge_if-held.ensures.1, l.invariant.1.freed, held_bytes a.ring a.cells.now) }

pub loop-i-preserved : goal.loop-i-preserved
loop-i-preserved c =
    let a = c.args in
    let l = c.loop-i in
    let k = c.acknowledge_if-held in
    let inside : a.from + l.i < length (held a.ring l.cells) = omega (arith, c.min-stop.ensures, c.saturating_sub.ensures, c.count.ensures, as_many a.ring a.cells.now l.cells l.invariant.0) in (
      search (rules, l.invariant.0),
      going_turn a.ends.now a.from a.top (held a.ring a.cells.now) l.i l.furthest l.sum k.result (omega arith) inside c.max-furthest.ensures k.ensures l.invariant.1,
    )

pub shape_of-cells : goal.shape_of-cells
shape_of-cells c = c.loop-i.invariant.0

pub returns : goal.returns
returns c =
    let a = c.args in
    let l = c.loop-i in
    let stop : l.i ≡ min (length a.ends.now) (length (held a.ring l.cells) - a.from) = omega (arith, c.min-stop.ensures, c.saturating_sub.ensures, c.count.ensures, as_many a.ring a.cells.now l.cells l.invariant.0) in
    going_done a.ends.now a.from a.top (held a.ring a.cells.now) l.i l.furthest l.sum stop l.invariant.1
