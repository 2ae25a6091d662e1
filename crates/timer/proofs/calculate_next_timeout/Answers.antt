-- `timer::calculate_next_timeout`: from 31 counted on it is the ceiling; below, the wait so far, doubled as often as is left, is the back-off.
-- Assumes nothing.
use mathlib.Core.Path.{sym, ap, ◌∙◌}
use mathlib.Core.Bool.{Bool, cond}
use native.Mathlib.Omega.{arith}
use borrow.Author.Tests.{lt-ltb}
use Rattle.timer.specs.Timers.{doubling}
use Rattle.timer.proofs.Claims.{same_waits}
use Rattle.timer.proofs.calculate_next_timeout.Goals as goal

pub loop-wait-init : goal.loop-wait-init
loop-wait-init c =
    let a = c.args in
    let below = lt-ltb a.n_rtos 31 (omega arith) in
    sym (ap (λ (b : Bool). cond b (doubling a.rto a.n_rtos a.rto_max) a.rto_max) below)
    ∙ same_waits a.rto a.n_rtos a.rto_max
