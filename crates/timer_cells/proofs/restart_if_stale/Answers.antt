-- Nothing to do, or a start, which is refused by the same limits.
use mathlib.Core.Path.{sym, ◌∙◌}
use Rattle.timer_cells.proofs.Laws.{running, refused_both, started_both, stale}
use Rattle.timer_cells.proofs.restart_if_stale.Goals as goal
use Rattle.timer_cells.proofs.restart_if_stale.Goals.{else-startable-via-then-startable+else-ahead, else-startable-via-else-startable}

pub returns-then-ahead : goal.returns-then-ahead
returns-then-ahead c =
    let a = c.args in
    let m = c.deadline-until in
    running a.head a.cells.now a.timer _ c.in_ok-at.ensures a.clock a.interval (sym c.startable.ensures ∙ c.if-startable.true) m.result m.ensures (sym c.ahead.ensures ∙ c.if-ahead.true)

pub returns : goal.returns
returns c =
    let a = c.args in
    let m = c.deadline-until in
    let s = c.in_ok-at.ensures in
    stale a.head a.cells.now a.timer _ s a.clock a.interval
    (elim c.else-startable.branch [
      | else-startable-via-then-startable+else-ahead w ↦ started_both a.head a.cells.now a.timer _ s a.clock a.interval m.result m.ensures (sym w.ahead.ensures ∙ w.if-ahead.false)
      | else-startable-via-else-startable w ↦ refused_both a.head a.cells.now a.timer _ s a.clock a.interval (sym c.startable.ensures ∙ w.if-startable.false)
    ])
    _ _ _ c.start.ensures
