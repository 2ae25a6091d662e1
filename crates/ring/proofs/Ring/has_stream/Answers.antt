-- Among the slots from the start on, or else among those past the seam, where there are any.
use mathlib.Core.Path.{sym, ap, ◌∙◌}
use Prim.Native.Nat.{◌-◌, ◌<◌}
use native.Mathlib.Nat.{mod-lt}
use native.Mathlib.Omega.{arith}
use borrow.Author.Tests.{le-ltb}
use Rattle.model.specs.Flight.{has_stream}
use Rattle.rows.specs.Turns.{nil_of, part_none}
use Rattle.chunk_slot.specs.Chunks.{chunks}
use Rattle.ring.specs.Held.{held, length_held, held_stream}
use Rattle.ring.proofs.Ring.has_stream.Goals as goal

pub returns-then-n-eq0 : goal.returns-then-n-eq0
returns-then-n-eq0 c =
    let a = c.args in
    sym (ap (has_stream a.stream) (nil_of (held a.self.now a.cells.now) (omega arith)))

pub fold-start-requires : goal.fold-start-requires
fold-start-requires c = let a = c.args in omega (arith, length_held a.self.now a.cells.now)

pub overflow_sub-behind : goal.overflow_sub-behind
overflow_sub-behind c =
    let a = c.args in
    let z : 0 < c.room-room.result = omega (arith, length_held a.self.now a.cells.now) in
    omega (arith, mod-lt a.self.now.start z)

pub overflow_add-start : goal.overflow_add-start
overflow_add-start c =
    let a = c.args in
    let z : 0 < c.room-room.result = omega (arith, length_held a.self.now a.cells.now) in
    omega (arith, mod-lt a.self.now.start z, length_held a.self.now a.cells.now)

pub returns-then-among : goal.returns-then-among
returns-then-among c =
    let a = c.args in
    let n = c.count-n in
    c.if-among.true ∙ held_stream a.self.now a.cells.now n.ensures c.room-room.ensures c.fold-start.ensures a.stream (sym c.if-among.true ∙ c.among.ensures)

pub returns-then-behind-n : goal.returns-then-behind-n
returns-then-behind-n c =
    let a = c.args in
    let n = c.count-n in
    c.among-then-behind-n.ensures
    ∙ held_stream a.self.now a.cells.now n.ensures c.room-room.ensures c.fold-start.ensures a.stream (sym c.if-among.false ∙ c.among.ensures)

pub returns-else-behind-n : goal.returns-else-behind-n
returns-else-behind-n c =
    let a = c.args in
    let n = c.count-n in
    let far = c.room-room.result - c.fold-start.result in
    let none = part_none (chunks a.cells.now) 0 (n.result - far) (omega arith) in
    le-ltb far n.result (omega arith) ∙ sym (ap (has_stream a.stream) none)
    ∙ held_stream a.self.now a.cells.now n.ensures c.room-room.ensures c.fold-start.ensures a.stream (sym c.if-among.false ∙ c.among.ensures)
