-- The marks of the timer are written (`marked`).
use mathlib.Core.Path.{refl}
use Rattle.timer.specs.Entries.{idle_entry}
use Rattle.timer.specs.Calls.{done as changed, stop_of}
use Rattle.timer_cells.proofs.Laws.{marked}
use Rattle.timer_cells.proofs.stop.Goals as goal

pub returns : goal.returns
returns c head = marked head c.args.cells.now c.args.timer _ c.in_ok-at.ensures (λ t k. changed (stop_of t k)) c.stopped.result (λ e. idle_entry e.maximum) refl c.stopped.ensures
