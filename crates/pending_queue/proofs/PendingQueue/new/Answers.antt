-- Rings of no chunks, whatever the cells are.
use Rattle.std.proofs.Common.{Bool, ap, arith}
use Rattle.model.specs.Rings.{bytes}
use Rattle.ring.specs.Held.{held_none}
use Rattle.pending_queue.specs.Queue.{both, under_way_of}
use Rattle.limits.specs.Flags.{is_set, not_set}
use Rattle.pending_queue.proofs.PendingQueue.new.Goals as goal

pub returns : goal.returns
returns c =
    λ u o.
    let q = c.default.result in
    let x = held_none q.unordered u (omega arith) in
    let y = held_none q.ordered o (omega arith) in
    (both (ap (λ (b : Bool). under_way_of b (is_set q.unordered_is_selected)) (not_set (omega arith))) x y, omega (arith, ap bytes x, ap bytes y))
