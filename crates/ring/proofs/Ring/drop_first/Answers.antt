-- The next slot is the start, and the length that is read is one less.
use mathlib.Core.Path.{◌≡◌, ◌∙◌, ap}
use Prim.Native.Nat.{ℕ, ◌%◌, ◌<◌}
use native.Mathlib.Nat.{mod-lt}
use native.Mathlib.Omega.{arith}
use lib.ListN.{length}
use Rattle.rows.specs.Turns.{nil_of}
use Rattle.ring.specs.Held.{held, length_held, held_drop}
use Rattle.ring.proofs.Ring.drop_first.Goals as goal

pub returns-else-n-gt0 : goal.returns-else-n-gt0
returns-else-n-gt0 c =
    let a = c.args in
    let h : length (held a.self.now a.cells.now) ≡ 0 = omega arith in
    rw (nil_of (held a.self.now a.cells.now) h)

pub fold-requires : goal.fold-requires
fold-requires c = let a = c.args in omega (arith, length_held a.self.now a.cells.now)

pub overflow_add-self : goal.overflow_add-self
overflow_add-self c =
    let a = c.args in
    let z : 0 < c.room.result = omega (arith, length_held a.self.now a.cells.now) in
    omega (arith, mod-lt a.self.now.start z)

pub returns-then-n-gt0 : goal.returns-then-n-gt0
returns-then-n-gt0 c =
    let a = c.args in
    let n = c.count-n in
    let s = c.fold.ensures ∙ ap (λ (k : ℕ). a.self.now.start % k) c.room.ensures in
    held_drop a.self.now a.cells.now n.result c.fold.result 1 n.ensures s (omega arith)
