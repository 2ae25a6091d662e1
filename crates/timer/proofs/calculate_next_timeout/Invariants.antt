-- `timer::calculate_next_timeout`: from 31 counted on it is the ceiling; below, the wait so far, doubled as often as is left, is the back-off.
-- Assumes nothing.
use mathlib.Core.Path.{◌≡◌}
use Rattle.timer.specs.Timers.{backoff, doubling}
use Rattle.timer.proofs.calculate_next_timeout.Given as goal

abbrev pub invariant-loop-wait : goal.invariant-loop-wait
invariant-loop-wait l = doubling l.wait l.left l.rto_max ≡ backoff l.rto l.n_rtos l.rto_max

abbrev pub decreases-loop-wait : goal.decreases-loop-wait
decreases-loop-wait l = l.left
