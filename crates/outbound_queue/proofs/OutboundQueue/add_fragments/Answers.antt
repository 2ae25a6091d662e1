-- The ring of the message came back; the rest stays.
use mathlib.Core.Bool.{true, false}
use mathlib.Core.Path.{refl}
use Prim.Native.Nat.{◌+◌}
use Rattle.rows.specs.Parts.{patch}
use Rattle.outbound_queue.specs.Outbound.{third, rings_in, unordered_room, ordered_room, unordered_back, ordered_back}
use Rattle.outbound_queue.specs.Steps.{joins_told}
use borrow.Author.Rules.{rules}
use Rattle.outbound_queue.proofs.OutboundQueue.add_fragments.Goals as goal

pub returns-then-message : goal.returns-then-message
returns-then-message c =
    let a = c.args in
    let m = c.add_fragments in
    let ws = a.cells.now in
    let k = third ws in
    let p = m.new.cells in
    joins_told a.self.now a.message a.maximum a.offset a.length ws (patch 0 k ws p) (rings_in ws).unordered p (unordered_room ws) true refl (unordered_back ws p (search rules)) c.if-message.true m.ensures

pub returns-else-message : goal.returns-else-message
returns-else-message c =
    let a = c.args in
    let m = c.add_fragments-else-message in
    let ws = a.cells.now in
    let k = third ws in
    let p = m.new.cells in
    joins_told a.self.now a.message a.maximum a.offset a.length ws (patch k (k + k) ws p) (rings_in ws).ordered p (ordered_room ws) false refl (ordered_back ws p (search rules)) c.if-message.false m.ensures
