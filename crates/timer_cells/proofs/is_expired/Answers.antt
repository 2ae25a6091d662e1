-- The marks of the timer become those after its expiry (`checked`).
use Rattle.timer_cells.proofs.Laws.{checked}
use Rattle.timer_cells.proofs.is_expired.Goals as goal

pub returns : goal.returns
returns c head = checked head c.args.cells.now c.args.timer _ c.in_ok-at.ensures c.args.clock _ _ c.expiry.ensures
