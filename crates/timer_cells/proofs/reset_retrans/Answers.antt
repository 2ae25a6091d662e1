-- The marks of the timer are written (`marked`).
use mathlib.Core.Path.{refl}
use Rattle.timer.specs.Timers.{with_count}
use Rattle.timer.specs.Calls.{done as changed, reset_retrans_of}
use Rattle.timer_cells.proofs.Laws.{marked}
use Rattle.timer_cells.proofs.reset_retrans.Goals as goal

pub returns : goal.returns
returns c head = marked head c.args.cells.now c.args.timer _ c.in_ok-at.ensures (λ t k. changed (reset_retrans_of t k)) c.uncounted.result (λ e. with_count e 0) refl c.uncounted.ensures
