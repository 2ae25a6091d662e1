-- The k-th slot is the start, and the length that is read is k less; where there are no more, nothing is held.
use mathlib.Core.Path.{sym, ◌∙◌, ap}
use Prim.Native.Nat.{ℕ, ◌%◌, ◌<◌}
use native.Mathlib.Nat.{mod-lt}
use native.Mathlib.Omega.{arith}
use Rattle.rows.specs.Turns.{rest_none}
use Rattle.ring.specs.Held.{held, length_held, held_none, held_drop}
use Rattle.ring.proofs.Ring.drop_front.Goals as goal

pub returns-then-n-k : goal.returns-then-n-k
returns-then-n-k c =
    let a = c.args in
    let ws = a.cells.now in
    held_none c.default.result ws (omega arith) ∙ sym (rest_none (held a.self.now ws) a.k (omega arith))

pub fold-requires : goal.fold-requires
fold-requires c = let a = c.args in omega (arith, length_held a.self.now a.cells.now)

pub overflow_add-self : goal.overflow_add-self
overflow_add-self c =
    let a = c.args in
    let z : 0 < c.room.result = omega (arith, length_held a.self.now a.cells.now) in
    omega (arith, mod-lt a.self.now.start z, length_held a.self.now a.cells.now)

pub returns-else-n-k : goal.returns-else-n-k
returns-else-n-k c =
    let a = c.args in
    let n = c.count-n in
    let s = c.fold.ensures ∙ ap (λ (k : ℕ). a.self.now.start % k) c.room.ensures in
    held_drop a.self.now a.cells.now n.result c.fold.result a.k n.ensures s (omega arith)
