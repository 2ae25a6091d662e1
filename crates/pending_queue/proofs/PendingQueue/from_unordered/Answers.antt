-- What is under way decides, and else whether the unordered ring has a front.
use Rattle.limits.specs.Flags.{is_set, is_set_lem, not_set}
use Rattle.ring.specs.Held.{held}
use Rattle.pending_queue.specs.Fronts.{ahead_sending, ahead_idle}
use Rattle.pending_queue.proofs.PendingQueue.from_unordered.Goals as goal

pub returns-then-under_way : goal.returns-then-under_way
returns-then-under_way c =
    let a = c.args in
    ahead_sending (is_set a.self.now.unordered_is_selected) (held a.self.now.unordered a.unordered.now) (is_set_lem c.if-under_way.true)

pub returns-else-under_way : goal.returns-else-under_way
returns-else-under_way c =
    let a = c.args in
    ahead_idle (is_set a.self.now.unordered_is_selected) (held a.self.now.unordered a.unordered.now) (not_set c.if-under_way.false) c.count.ensures
