-- The room of the ring, and what it would hold.
use mathlib.Core.Path.{sym, ap, ap₂, ◌∙◌}
use mathlib.Core.Bool.{Bool}
use Prim.Native.Nat.{ℕ, ◌+◌}
use native.Mathlib.Omega.{arith}
use lib.ListN.{length}
use lib.Dec.{ltb}
use Rattle.model.specs.State.{at, lane_of}
use Rattle.ring.specs.Held.{held_limit}
use Rattle.outbound_queue.specs.Outbound.{rings_in, ring_room, waiting, unordered_room, ordered_room}
use Rattle.outbound_send.proofs.push.lacks_room.Goals as goal

pub overflow_add-result : goal.overflow_add-result
overflow_add-result c =
    let a = c.args in
    omega (arith, c.requires, c.count.ensures, held_limit a.q.pending.unordered (rings_in a.cells.now).unordered)

pub returns-then-unordered : goal.returns-then-unordered
returns-then-unordered c =
    let a = c.args in
    let ws = a.cells.now in
    ap₂ (λ (i j : ℕ). ltb i (j + a.fragments)) (c.room-room.ensures ∙ unordered_room ws) c.count.ensures
    ∙ ap (λ (t : Bool). ltb (ring_room ws) (length (at (lane_of t) (waiting a.q (rings_in ws))) + a.fragments)) (sym c.if-unordered.true)

pub overflow_add-result-2 : goal.overflow_add-result-2
overflow_add-result-2 c =
    let a = c.args in
    omega (arith, c.requires, c.count-2.ensures, held_limit a.q.pending.ordered (rings_in a.cells.now).ordered)

pub returns : goal.returns
returns c =
    let a = c.args in
    let ws = a.cells.now in
    ap₂ (λ (i j : ℕ). ltb i (j + a.fragments)) (c.room-room-2.ensures ∙ ordered_room ws) c.count-2.ensures
    ∙ ap (λ (t : Bool). ltb (ring_room ws) (length (at (lane_of t) (waiting a.q (rings_in ws))) + a.fragments)) (sym c.if-unordered.false)
