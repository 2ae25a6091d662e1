-- Past the end, before the seam, or past it.
use mathlib.Core.Path.{◌≡◌, ◌∙◌, ap}
use Prim.Native.Nat.{ℕ, ◌+◌, ◌-◌, ◌≤◌, ◌<◌}
use native.Mathlib.Nat.{mod-lt}
use native.Mathlib.Omega.{arith}
use Rattle.rows.specs.Rounds.{cell_of, cell_past, cell_low, cell_high}
use Rattle.ring.specs.Held.{length_held}
use Rattle.ring.proofs.Ring.slot.Goals as goal

pub returns-then-count-i : goal.returns-then-count-i
returns-then-count-i c =
    let a = c.args in
    let r = a.self.now in
    let room = c.room-room in
    cell_past room.result r.start r.len a.i (omega (arith, length_held r a.cells.now)) ∙ ap (λ (k : ℕ). cell_of k r.start r.len a.i) room.ensures

pub fold-requires : goal.fold-requires
fold-requires c = let a = c.args in omega (arith, length_held a.self.now a.cells.now)

pub overflow_add-at : goal.overflow_add-at
overflow_add-at c =
    let a = c.args in
    let r = a.self.now in
    let h = length_held r a.cells.now in
    let z : 0 < c.room-room.result = omega (arith, h) in
    omega (arith, h, mod-lt r.start z)

pub returns-then-at-room : goal.returns-then-at-room
returns-then-at-room c =
    let a = c.args in
    let r = a.self.now in
    let room = c.room-room in
    cell_low room.result r.start r.len a.i c.fold.result c.fold.ensures (omega (arith, length_held r a.cells.now)) (omega arith) ∙ ap (λ (k : ℕ). cell_of k r.start r.len a.i) room.ensures

pub returns-else-at-room : goal.returns-else-at-room
returns-else-at-room c =
    let a = c.args in
    let r = a.self.now in
    let room = c.room-room in
    let f = c.fold.result in
    let h : room.result ≤ f + a.i = omega arith in
    let z : 0 < room.result = omega (arith, length_held r a.cells.now) in
    let same : f + a.i - room.result ≡ a.i - (room.result - f) = omega (arith, mod-lt r.start z) in
    same ∙ cell_high room.result r.start r.len a.i f c.fold.ensures (omega (arith, length_held r a.cells.now)) h ∙ ap (λ (k : ℕ). cell_of k r.start r.len a.i) room.ensures
