-- The room of the ring, less what it holds.
use mathlib.Core.Path.{sym, ap, ap₂, ◌∙◌}
use mathlib.Core.Bool.{Bool}
use Prim.Native.Nat.{ℕ, ◌-◌}
use native.Mathlib.Omega.{arith}
use lib.ListN.{length}
use Rattle.model.specs.State.{at, lane_of}
use Rattle.ring.specs.Held.{length_held}
use Rattle.outbound_queue.specs.Outbound.{rings_in, ring_room, waiting, unordered_room, ordered_room}
use Rattle.sender_asks.proofs.beside.left_in.Goals as goal

pub overflow_sub-result : goal.overflow_sub-result
overflow_sub-result c =
    let a = c.args in
    omega (arith, c.count.ensures, c.room-room.ensures, length_held a.q.pending.unordered (rings_in a.cells.now).unordered)

pub returns-then-unordered : goal.returns-then-unordered
returns-then-unordered c =
    let a = c.args in
    let ws = a.cells.now in
    ap₂ (λ (i j : ℕ). i - j) (c.room-room.ensures ∙ unordered_room ws) c.count.ensures
    ∙ ap (λ (t : Bool). ring_room ws - length (at (lane_of t) (waiting a.q (rings_in ws)))) (sym c.if-unordered.true)

pub overflow_sub-result-2 : goal.overflow_sub-result-2
overflow_sub-result-2 c =
    let a = c.args in
    omega (arith, c.count-2.ensures, c.room-room-2.ensures, length_held a.q.pending.ordered (rings_in a.cells.now).ordered)

pub returns : goal.returns
returns c =
    let a = c.args in
    let ws = a.cells.now in
    ap₂ (λ (i j : ℕ). i - j) (c.room-room-2.ensures ∙ ordered_room ws) c.count-2.ensures
    ∙ ap (λ (t : Bool). ring_room ws - length (at (lane_of t) (waiting a.q (rings_in ws)))) (sym c.if-unordered.false)
