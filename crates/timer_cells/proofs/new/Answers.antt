-- Refused by the tests, or each of the six is made idle (`made`).
use native.Mathlib.Omega.{arith}
use mathlib.Core.Path.{refl}
use Rattle.timer_cells.proofs.Laws.{made, all_written}
use Rattle.timer_cells.proofs.new.Goals as goal

pub returns : goal.returns
returns c =
    let a = c.args in
    made a.head.now a.cells.now a.has_init a.init a.has_data a.data a.rto_max (omega arith) (omega arith) _ _ refl
    (all_written a.cells.now _ _ _ _ _ _ _ _ _ _ _ _ (omega arith) c.idle.ensures c.idle-2.ensures c.idle-3.ensures c.idle-4.ensures c.idle-5.ensures c.idle-6.ensures)
