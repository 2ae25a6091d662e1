-- No more can be overdue than there are.
use Rattle.std.proofs.Common.{sym, ◌∙◌, arith, le-ltb}
use Rattle.ring.specs.Held.{held}
use Rattle.payload_queue.specs.Queue.{overdue_entry}
use Rattle.payload_queue.specs.Listing.{count_within}
use Rattle.payload_queue.proofs.PayloadQueue.is_short.Goals as goal

pub returns-else-places-len : goal.returns-else-places-len
returns-else-places-len c =
    let a = c.args in
    let e = held a.self.now.ring a.cells.now in
    le-ltb a.places _ (omega arith) ∙ sym (le-ltb a.places _ (omega (arith, count_within (overdue_entry a.clock a.pending) e)))
