-- The deadline that the words mean (`got`).
use Rattle.timer_cells.proofs.Laws.{got}
use Rattle.timer_cells.proofs.get.Goals as goal

pub returns : goal.returns
returns c head = got head c.args.cells.now c.args.timer _ c.in_ok-at.ensures c.deadline.result c.deadline.ensures
