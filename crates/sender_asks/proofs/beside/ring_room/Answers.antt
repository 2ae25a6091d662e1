-- The queue's answer, of the whole sender.
use mathlib.Core.Path.{ap, ◌∙◌}
use mathlib.Core.List.{List}
use Prim.Native.Nat.{ℕ, ◌-◌}
use lib.ListN.{length}
use Rattle.model.specs.State.{at, lane_of}
use Rattle.outbound_queue.specs.Outbound.{ring_room}
use Rattle.outbound_queue.specs.Calls.{waiting_in}
use Rattle.sender_head.specs.Lent.{queue_is}
use Rattle.sender_asks.proofs.beside.ring_room.Goals as goal

pub returns : goal.returns
returns c =
    let a = c.args in
    let h = a.h.now in
    let k = c.table_words-k.ensures.0 in
    c.left_in.ensures ∙ ap (λ (ws : List ℕ). ring_room ws - length (at (lane_of a.unordered) (waiting_in h.queue ws))) (queue_is h a.cells.now _ k)
