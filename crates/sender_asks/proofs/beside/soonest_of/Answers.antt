-- A loop that reads: the earlier of what was read and of what is left is the soonest of all.
use mathlib.Core.Path.{refl, ◌∙◌}
use native.Mathlib.Omega.{arith}
use Rattle.ring.specs.Held.{held}
use Rattle.sender_asks.specs.Beside.{read_soonest, soonest_done}
use Rattle.sender_asks.proofs.beside.soonest_of.Goals as goal

pub loop-i-init : goal.loop-i-init
loop-i-init c = refl

pub loop-i-preserved : goal.loop-i-preserved
loop-i-preserved c =
    let a = c.args in
    let l = c.loop-i in
    let e = held a.ring a.cells.now in
    read_soonest e l.i l.due c.nth.ensures (omega arith) c.entry_deadline.ensures c.earlier-due.ensures ∙ l.invariant

pub returns : goal.returns
returns c =
    let a = c.args in
    let l = c.loop-i in
    soonest_done (held a.ring a.cells.now) l.i l.due (omega arith) ∙ l.invariant
