-- A loop that reads: the answer for what is left is the answer for all.
use Rattle.std.proofs.Common.{List, sym, refl, ap, ◌∙◌, arith}
use Rattle.model.specs.declared.Chunk.{Chunk}
use Rattle.model.specs.Rings.{tsns_of}
use Rattle.model.specs.Flight.{outstanding, earliest}
use Rattle.rows.specs.Turns.{read_turn, rest_none}
use Rattle.chunk_slot.specs.Chunks.{blank_chunk}
use Rattle.ring.specs.Held.{held}
use Rattle.payload_queue.specs.Listing.{tsns_hit, tsns_miss}
use Rattle.payload_queue.proofs.PayloadQueue.earliest_outstanding.Goals as goal

pub loop-i-init : goal.loop-i-init
loop-i-init c = refl

pub returns-then-is_outstanding : goal.returns-then-is_outstanding
returns-then-is_outstanding c =
    let a = c.args in
    let l = c.loop-i in
    let e = held a.self.now.ring a.cells.now in
    let r = read_turn e l.i blank_chunk c.nth.ensures (omega arith) in
    sym (ap earliest (tsns_hit outstanding l.tsn r (sym c.is_outstanding.ensures ∙ c.if-is_outstanding.true))) ∙ l.invariant

pub loop-i-preserved : goal.loop-i-preserved
loop-i-preserved c =
    let a = c.args in
    let l = c.loop-i in
    let e = held a.self.now.ring a.cells.now in
    let r = read_turn e l.i blank_chunk c.nth.ensures (omega arith) in
    sym (ap earliest (tsns_miss outstanding l.tsn r (sym c.is_outstanding.ensures ∙ c.if-is_outstanding.false))) ∙ l.invariant

pub returns : goal.returns
returns c =
    let a = c.args in
    let l = c.loop-i in
    sym (ap (λ (m : List Chunk). earliest (tsns_of outstanding l.tsn m)) (rest_none (held a.self.now.ring a.cells.now) l.i (omega arith))) ∙ l.invariant
