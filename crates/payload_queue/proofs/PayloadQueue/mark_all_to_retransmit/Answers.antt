-- A loop that changes each entry in its place; no entry holds more or less for it.
use Rattle.std.proofs.Common.{sym, refl, ap, ◌∙◌, arith, rules}
use Rattle.model.specs.Rings.{bytes}
use Rattle.model.specs.Flight.{to_retransmit}
use Rattle.rows.specs.Turns.{map_turn, map_done}
use Rattle.ring.specs.Held.{held}
use Rattle.payload_queue.specs.Queue.{least_due}
use Rattle.payload_queue.specs.Sums.{bytes_marked}
use Rattle.payload_queue.specs.Dues.{least_marked}
use Rattle.payload_queue.specs.Cases.{entries_are}
use Rattle.payload_queue.proofs.PayloadQueue.mark_all_to_retransmit.Goals as goal

pub loop-i-init : goal.loop-i-init
loop-i-init c = (search rules, refl)

pub loop-i-preserved : goal.loop-i-preserved
loop-i-preserved c =
    let l = c.loop-i in
    (search rules, map_turn to_retransmit _ l.i l.invariant.1 (omega arith) c.mark_nth.ensures)

pub returns : goal.returns
returns c =
    let a = c.args in
    let l = c.loop-i in
    let e = held a.self.now.ring a.cells.now in
    let m = map_done to_retransmit e l.i l.invariant.1 (omega arith) in
    (entries_are a.self.now.oldest m, λ h. (h.0 ∙ sym (ap bytes m ∙ bytes_marked e), omega (arith, h.1, ap least_due m, least_marked e)))
