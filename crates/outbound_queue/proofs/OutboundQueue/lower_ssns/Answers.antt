-- The ordered ring came back; the rest stays.
use mathlib.Core.Path.{◌∙◌}
use Prim.Native.Nat.{◌+◌}
use Rattle.rows.specs.Parts.{patch}
use Rattle.outbound_queue.specs.Outbound.{third, rings_in, ordered_back, sender_by, counted_by_lem}
use Rattle.outbound_queue.specs.Steps.{lowered_ring}
use borrow.Author.Rules.{rules}
use Rattle.outbound_queue.proofs.OutboundQueue.lower_ssns.Goals as goal

pub returns : goal.returns
returns c =
    let a = c.args in
    let m = c.compact_ordered_ssns in
    let e = m.ensures in
    let ws = a.cells.now in
    let r = rings_in ws in
    let k = third ws in
    let p = m.new.ordered in
    let b = ordered_back ws p (search rules) in
    let vs = patch k (k + k) ws p in (
      λ ts. sender_by ts a.self.now vs b ∙ lowered_ring ts a.self.now r p e.0,
      λ h. counted_by_lem a.self.now vs b (e.1 r.unordered h.0, h.1),
    )
