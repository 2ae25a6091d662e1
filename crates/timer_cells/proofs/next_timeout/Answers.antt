-- The smallest of the deadlines passed: with that of the others it is the smallest of all.
use native.Mathlib.Omega.{arith}
use mathlib.Core.Path.{refl, ap, ◌∙◌}
use mathlib.Core.List.{map}
use Prim.Native.Nat.{◌+◌, ◌*◌}
use lib.ListN.{drop}
use Rattle.limits.specs.Moments.{Moment, earlier}
use Rattle.timer.specs.Entries.{order}
use Rattle.timer.specs.Calls.{get_of, soonest}
use Rattle.timer_cells.specs.Words.{table_of}
use Rattle.timer_cells.proofs.Laws.{none, next_more}
use Rattle.timer_cells.proofs.next_timeout.Goals as goal

pub loop-timer-preserved : goal.loop-timer-preserved
loop-timer-preserved c =
    let ws = c.args.cells.now in
    let l = c.loop-timer in
    ap (λ (m : Moment). earlier m (soonest (map (get_of (table_of none ws)) (drop (l.timer + 1) order)))) c.earlier-next.ensures
    ∙ next_more none ws l.timer (l.timer * 3) (record { size = omega arith; below = omega arith; first = refl }) l.next _ c.deadline.ensures ∙ l.invariant
