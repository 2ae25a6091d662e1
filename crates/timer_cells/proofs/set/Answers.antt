-- Refused by the clock's limit, or two words of the timer are written (`set_to`).
use mathlib.Core.Path.{sym, ◌∙◌}
use Rattle.timer_cells.proofs.Laws.{then_is, set_to}
use Rattle.timer_cells.proofs.set.Goals as goal

pub returns : goal.returns
returns c head =
    let a = c.args in
    set_to head a.cells.now a.timer _ c.in_ok-at.ensures a.is a.time c.then_some.result (c.then_some.ensures ∙ then_is a.is a.time) (sym c.beyond.ensures ∙ c.if-beyond.false) c.timed-marks.result c.timed-marks.ensures
