-- One of the two rings was lent; the bytes are counted where there was room.
use Rattle.std.proofs.Common.{true, false}
use Rattle.pending_queue.specs.Adding.{Half, half, joins_told}
use Rattle.pending_queue.proofs.PendingQueue.add_fragments.Goals as goal
use Rattle.pending_queue.proofs.PendingQueue.add_fragments.Goals.{then-message, else-message}

pub returns : goal.returns
returns c =
    let a = c.args in
    let s = c.if-message in
    let x = a.message in
    let q = a.self.now in
    let h : Half x.unordered x a.maximum a.offset a.length q a.cells.now s.self s.cells s.added = elim s.branch [ then-message w ↦ half x a.maximum a.offset a.length q a.cells.now true _ _ _ w.if-message.true w.self-is w.cells-is w.added-is w.push_fragments-added.ensures | else-message w ↦ half x a.maximum a.offset a.length q a.cells.now false _ _ _ w.if-message.false w.self-is w.cells-is w.added-is w.push_fragments-added-else-message.ensures ] in
    joins_told x a.maximum a.offset a.length q a.cells.now s.cells s.added c.unwrap_or.ensures c.is_some.ensures h
