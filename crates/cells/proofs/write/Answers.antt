-- Seven stores are one `sets`; past the end nothing is written.
use mathlib.Core.List.{[], ◌∷◌}
use native.Mathlib.Omega.{arith}
use native.Mathlib.Numerals.{add-one, add-two, add-three, add-four, add_five, add_six}
use lib.ListN.{length-set}
use Rattle.cells.specs.Slots.{written_in, written_past}
use Rattle.cells.proofs.write.Goals as goal

pub returns-then-room-i : goal.returns-then-room-i
returns-then-room-i c = let a = c.args in written_past a.i (a.a ∷ a.b ∷ a.c ∷ a.d ∷ a.e ∷ a.f ∷ a.g ∷ []) a.cells.now (omega arith)

pub bounds-cells-at-2 : goal.bounds-cells-at-2
bounds-cells-at-2 c = simp length-set (omega arith)

pub bounds-cells-at-3 : goal.bounds-cells-at-3
bounds-cells-at-3 c = simp length-set (omega arith)

pub bounds-cells-at-4 : goal.bounds-cells-at-4
bounds-cells-at-4 c = simp length-set (omega arith)

pub bounds-cells-at-5 : goal.bounds-cells-at-5
bounds-cells-at-5 c = simp length-set (omega arith)

pub bounds-cells-at-6 : goal.bounds-cells-at-6
bounds-cells-at-6 c = simp length-set (omega arith)

pub bounds-cells-at-7 : goal.bounds-cells-at-7
bounds-cells-at-7 c = simp length-set (omega arith)

pub shape_of-cells : goal.shape_of-cells
shape_of-cells c = simp length-set

pub returns : goal.returns
returns c =
    let a = c.args in
    simp (add-one, add-two, add-three, add-four, add_five, add_six)
    (written_in a.i (a.a ∷ a.b ∷ a.c ∷ a.d ∷ a.e ∷ a.f ∷ a.g ∷ []) a.cells.now (omega arith))
