-- The last of the longer ring is set, where there is room for it.
use mathlib.Core.Path.{◌∙◌, sym}
use native.Mathlib.Omega.{arith}
use Prim.Native.Nat.{◌≤◌, ◌<◌}
use lib.ListN.{length}
use borrow.Author.Tests.{lt-ltb, le-ltb}
use Rattle.cells.specs.Slots.{room_of}
use Rattle.rows.specs.Joins.{pushed_room, pushed_full}
use Rattle.chunk_slot.specs.Meaning.{chunk_for}
use Rattle.ring.specs.Held.{held, length_held, held_push}
use Rattle.ring.proofs.Ring.push.Goals as goal

pub returns-then-room-last : goal.returns-then-room-last
returns-then-room-last c =
    let a = c.args in
    let ws = a.cells.now in
    let l = held a.self.now ws in
    let h : room_of ws ≤ length l = omega (arith, length_held a.self.now ws) in
    (pushed_full (room_of ws) l (chunk_for a.words) h, sym (le-ltb (length l) (room_of ws) h))

pub returns : goal.returns
returns c =
    let a = c.args in
    let ws = a.cells.now in
    let l = held a.self.now ws in
    let h : length l < room_of ws = omega (arith, length_held a.self.now ws) in
    (c.put.ensures ∙ held_push a.self.now ws (chunk_for a.words) (omega arith) ∙ pushed_room (room_of ws) l (chunk_for a.words) h, sym (lt-ltb (length l) (room_of ws) h))
