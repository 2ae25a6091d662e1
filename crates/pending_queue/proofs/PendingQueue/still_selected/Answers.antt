-- The three cases of `ended`.
use Rattle.std.proofs.Common.{sym, ◌∙◌}
use Rattle.model.specs.Rings.{head}
use Rattle.limits.specs.Flags.{is_set}
use Rattle.pending_queue.specs.Queue.{under_way_of, pending_in}
use Rattle.pending_queue.specs.Runs.{ended_none}
use Rattle.pending_queue.proofs.PendingQueue.still_selected.Goals as goal

pub returns-in_default : goal.returns-in_default
returns-in_default c =
    let a = c.args in
    let q = a.self.now in
    ended_none a.number (under_way_of (is_set q.selected) (is_set q.unordered_is_selected)) (head (pending_in q a.unordered.now a.ordered.now)) (sym c.peek.ensures ∙ c.in_default.is)
