-- Three words are written (`idle_is`).
use native.Mathlib.Omega.{arith}
use Rattle.timer_cells.proofs.Laws.{idle_is}
use Rattle.timer_cells.proofs.idle.Goals as goal

pub returns : goal.returns
returns c = let a = c.args in idle_is a.is a.cells.now a.timer a.most c.limited.result (omega arith) (omega arith) c.limited.ensures
