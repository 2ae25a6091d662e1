-- The stream goes into the slot behind the last, where there is one.
use native.Mathlib.Omega.{arith}
use mathlib.Core.Path.{refl, sym}
use mathlib.Core.Bool.{true≢false}
use Prim.Native.Nat.{◌≤◌, ◌<◌}
use lib.ListN.{length}
use borrow.Author.Tests.{lt-ltb, le-ltb}
use Rattle.cells.specs.Slots.{room_of}
use Rattle.stream_table.specs.Tables.{table_of, length_table, table_join, table_full}
use Rattle.stream_table.proofs.open.Goals as goal

-- of the counts beyond the room, which all mean the same table, it is the one that was there
pub returns-then-room-count : goal.returns-then-room-count
returns-then-room-count c =
    let a = c.args in
    let ws = a.cells.now in
    let n = a.count.now in
    let h : room_of ws ≤ length (table_of n ws) = omega (arith, length_table n ws) in
    let full = table_full n ws a.stream (omega arith) in
    (full, sym (le-ltb (length (table_of n ws)) (room_of ws) h), λ no. (refl, refl))

pub returns : goal.returns
returns c =
    let a = c.args in
    let ws = a.cells.now in
    let n = a.count.now in
    let x = c.store in
    let h : length (table_of n ws) < room_of ws = omega (arith, length_table n ws) in
    (table_join n ws x.new.cells a.stream x.ensures (omega arith), sym (lt-ltb (length (table_of n ws)) (room_of ws) h), λ no. absurd (true≢false no))
