-- The marks of the timer are written (`marked`).
use mathlib.Core.Path.{refl}
use mathlib.Core.Bool.{true}
use Rattle.timer.specs.Timers.{with_suppression}
use Rattle.timer.specs.Calls.{done as changed, suppress_error_count_of}
use Rattle.timer_cells.proofs.Laws.{marked}
use Rattle.timer_cells.proofs.suppress_error_count.Goals as goal

pub returns : goal.returns
returns c head = marked head c.args.cells.now c.args.timer _ c.in_ok-at.ensures (λ t k. changed (suppress_error_count_of t k)) c.suppressed.result (λ e. with_suppression e true) refl c.suppressed.ensures
