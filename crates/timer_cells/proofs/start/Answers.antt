-- Refused by the limits, or two words of the timer are written (`started`).
use mathlib.Core.Path.{sym, ◌∙◌}
use Rattle.timer_cells.proofs.Laws.{started}
use Rattle.timer_cells.proofs.start.Goals as goal

pub returns : goal.returns
returns c =
    let a = c.args in
    started a.head a.cells.now a.timer _ c.in_ok-at.ensures a.clock a.interval (sym c.startable.ensures ∙ c.if-not-startable.false) c.wait.result c.timed-rest.result c.wait.ensures.exact c.timed-rest.ensures
