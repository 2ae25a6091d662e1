-- The head is the front of the ring that is ahead.
use Rattle.std.proofs.Common.{sym, ap, ◌∙◌}
use Rattle.model.specs.State.{lane_of}
use Rattle.pending_queue.specs.Queue.{pending_in}
use Rattle.pending_queue.specs.Fronts.{head_at}
use Rattle.pending_queue.proofs.PendingQueue.peek.Goals as goal

pub returns-then-from_unordered : goal.returns-then-from_unordered
returns-then-from_unordered c =
    let a = c.args in
    head_at (pending_in a.self.now a.unordered.now a.ordered.now) (sym (ap lane_of c.if-from_unordered.true) ∙ c.from_unordered.ensures) c.peek.ensures

pub returns-else-from_unordered : goal.returns-else-from_unordered
returns-else-from_unordered c =
    let a = c.args in
    head_at (pending_in a.self.now a.unordered.now a.ordered.now) (sym (ap lane_of c.if-from_unordered.false) ∙ c.from_unordered.ensures) c.peek-else-from_unordered.ensures
