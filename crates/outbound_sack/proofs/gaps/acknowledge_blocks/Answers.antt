-- Window behind window, and the bytes add up.
use Rattle.std.proofs.Common.{length, refl, arith, rules}
use Rattle.model.specs.Sack.{blocks_from}
use Rattle.ring.specs.Sums.{held_bytes}
use Rattle.ring.specs.Held.{held, held_limit}
use Rattle.outbound_sack.specs.Windows.{first_window, next_blank, last_window}
use Rattle.outbound_sack.proofs.gaps.acknowledge_blocks.Goals as goal

pub loop-from-init : goal.loop-from-init
loop-from-init c =
    let a = c.args in
    let l = held a.ring a.cells.now in
    (refl, λ w. first_window (blocks_from a.count 0 a.part.now) l (length l) w, omega arith)

pub overflow_add-sum : goal.overflow_add-sum
overflow_add-sum c =
    let a = c.args in
    let l = c.loop-from in
    record { fits = omega (arith, c.window-walked.ensures.2, l.invariant.2, held_bytes a.ring a.cells.now) }

pub overflow_add-from : goal.overflow_add-from
overflow_add-from c =
    let a = c.args in
    record { fits = omega (arith, c.count-n.ensures, held_limit a.ring a.cells.now) }

pub loop-from-preserved : goal.loop-from-preserved
loop-from-preserved c =
    let a = c.args in
    let l = c.loop-from in
    let e = held a.ring a.cells.now in
    let bs = blocks_from a.count 0 a.part.now in
    let w = c.window-walked.ensures in
    let n = c.count-n.ensures in
    (search (rules, l.invariant.0), λ good. next_blank bs e l.from l.top _ (omega (arith, n)) (l.invariant.1 good) w, omega (arith, w.2, l.invariant.2))

pub shape_of-cells : goal.shape_of-cells
shape_of-cells c = c.loop-from.invariant.0

pub returns : goal.returns
returns c =
    let a = c.args in
    let l = c.loop-from in
    let e = held a.ring a.cells.now in
    let bs = blocks_from a.count 0 a.part.now in
    let n = c.count-n.ensures in
    (λ good. last_window bs e l.from l.top (omega (arith, n)) (l.invariant.1 good), l.invariant.2)
