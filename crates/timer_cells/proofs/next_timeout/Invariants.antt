-- The smallest of the deadlines passed: with that of the others it is the smallest of all.
use mathlib.Core.Path.{◌≡◌}
use mathlib.Core.List.{map}
use lib.ListN.{drop}
use Rattle.limits.specs.Moments.{earlier}
use Rattle.timer.specs.Entries.{order}
use Rattle.timer.specs.Calls.{get_of, soonest, next_timeout_of}
use Rattle.timer_cells.specs.Words.{table_of}
use Rattle.timer_cells.proofs.Laws.{none}
use Rattle.timer_cells.proofs.next_timeout.Given as goal

abbrev pub invariant-loop-timer : goal.invariant-loop-timer
invariant-loop-timer l = earlier l.next (soonest (map (get_of (table_of none l.cells)) (drop l.timer order))) ≡ next_timeout_of (table_of none l.cells)
