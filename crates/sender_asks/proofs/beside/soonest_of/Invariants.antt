-- A loop that reads: the earlier of what was read and of what is left is the soonest of all.
use mathlib.Core.Path.{◌≡◌}
use lib.ListN.{drop}
use Rattle.limits.specs.Moments.{earlier}
use Rattle.ring.specs.Held.{held}
use Rattle.sender_asks.specs.Beside.{soonest}
use Rattle.sender_asks.proofs.beside.soonest_of.Given as goal

abbrev pub invariant-loop-i : goal.invariant-loop-i
invariant-loop-i l = earlier l.due (soonest (drop l.i (held l.ring l.cells))) ≡ soonest (held l.ring l.cells)
