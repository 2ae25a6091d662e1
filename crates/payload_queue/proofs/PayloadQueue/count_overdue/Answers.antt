-- A loop that reads: what is counted and the count of what is left make the whole.
use Rattle.std.proofs.Common.{Bool, ap, ◌∙◌, arith, rules}
use Rattle.model.specs.Lists.{when◌then◌else◌}
use Rattle.rows.specs.Turns.{read_turn, rest_none}
use Rattle.rows.specs.Walks.{count}
use Rattle.chunk_slot.specs.Chunks.{blank_chunk}
use Rattle.ring.specs.Held.{held}
use Rattle.payload_queue.specs.Queue.{overdue_entry}
use Rattle.payload_queue.proofs.PayloadQueue.count_overdue.Goals as goal

pub loop-i-init : goal.loop-i-init
loop-i-init c = (omega arith, search rules)

pub loop-i-preserved : goal.loop-i-preserved
loop-i-preserved c =
    let a = c.args in
    let l = c.loop-i in
    let e = held a.self.now.ring a.cells.now in
    let r = ap (count (overdue_entry a.clock a.pending)) (read_turn e l.i blank_chunk c.nth.ensures (omega arith)) in
    let o = c.one-k.ensures.0 ∙ ap (λ (b : Bool). when b then 1 else 0) c.is_overdue.ensures in
    (omega (arith, l.invariant.0, r, o), omega arith)

pub returns : goal.returns
returns c =
    let a = c.args in
    let l = c.loop-i in
    omega (arith, l.invariant.0, ap (count (overdue_entry a.clock a.pending)) (rest_none (held a.self.now.ring a.cells.now) l.i (omega arith)))
