-- The room, and one place more than there are entries.
use mathlib.Core.Path.{◌≡◌, ap₂, ◌∙◌}
use Prim.Native.Nat.{suc, ◌+◌}
use native.Mathlib.Omega.{arith}
use lib.Dec.{leb}
use lib.ListN.{length}
use Rattle.ring.specs.Held.{held_limit}
use Rattle.outbound_queue.specs.Outbound.{rings_in, flying, flight_room_lem}
use Rattle.outbound_queue.proofs.OutboundQueue.is_full.Goals as goal

pub overflow_add-result : goal.overflow_add-result
overflow_add-result c =
    let a = c.args in
    omega (arith, held_limit a.self.now.inflight.ring (rings_in a.cells.now).flight, c.len.ensures)

pub returns : goal.returns
returns c =
    let a = c.args in
    let e : c.len.result + 1 ≡ suc (length (flying a.self.now (rings_in a.cells.now)).entries) = omega (arith, c.len.ensures) in
    ap₂ leb (c.room-room.ensures ∙ flight_room_lem a.cells.now) e
