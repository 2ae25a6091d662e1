-- What is left to note leads from the window as it is to where all of it leads.
use Rattle.std.proofs.Common.{ℕ, ◌+◌, ◌-◌, List, length, sym, ap, ◌∙◌, arith}
use native.Mathlib.Nat.{sub-zero}
use Rattle.model.specs.Sack.{blocks_from}
use Rattle.model.specs.declared.Block.{Block}
use Rattle.wire.specs.SackWalks.{next_block, no_block}
use Rattle.outbound_sack.specs.Notes.{same_long}
use Rattle.outbound_sack.specs.Ends.{noted, noted_all}
use Rattle.outbound_sack.proofs.gaps.note_ends.Goals as goal

pub loop-i-init : goal.loop-i-init
loop-i-init c =
    let a = c.args in
    ap (λ (m : ℕ). noted_all (a.from + 1) (blocks_from m 0 a.part.now) a.ends.now) (sub-zero a.count)

pub loop-i-preserved : goal.loop-i-preserved
loop-i-preserved c =
    let a = c.args in
    let l = c.loop-i in
    let q = a.part.now in
    let k = a.from + 1 in
    let rest = blocks_from (a.count - (l.i + 1)) (l.i + 1) q in
    let n = c.note.ensures ∙ ap (λ (b : Block). noted k b l.ends) c.block.ensures in
    ap (noted_all k rest) n ∙ sym (ap (λ (bs : List Block). noted_all k bs l.ends) (next_block a.count l.i q (omega arith))) ∙ l.invariant

pub shape_of-ends : goal.shape_of-ends
shape_of-ends c =
    let a = c.args in
    let l = c.loop-i in
    let q = a.part.now in
    let k = a.from + 1 in
    sym (same_long k (blocks_from (a.count - l.i) l.i q) l.ends) ∙ ap length l.invariant ∙ same_long k (blocks_from a.count 0 q) a.ends.now

pub returns : goal.returns
returns c =
    let a = c.args in
    let l = c.loop-i in
    let q = a.part.now in
    let k = a.from + 1 in
    sym (ap (λ (bs : List Block). noted_all k bs l.ends) (no_block a.count l.i q (omega arith))) ∙ l.invariant
