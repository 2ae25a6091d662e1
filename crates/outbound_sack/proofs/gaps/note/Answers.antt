-- The start is before the window, behind it, or in it, where the further end stays.
use Rattle.std.proofs.Common.{◌+◌, ◌-◌, arith}
use Rattle.outbound_sack.specs.Notes.{before, past, kept, taken}
use Rattle.outbound_sack.proofs.gaps.note.Goals as goal

pub returns-then-start-from : goal.returns-then-start-from
returns-then-start-from c =
    let a = c.args in
    let l = a.ends.now in
    before (a.from + 1) a.block l (omega arith)

pub returns-then-ends-k : goal.returns-then-ends-k
returns-then-ends-k c =
    let a = c.args in
    let l = a.ends.now in
    past (a.from + 1) a.block l (omega arith)

pub returns-then-block-ends : goal.returns-then-block-ends
returns-then-block-ends c =
    let a = c.args in
    let l = a.ends.now in
    kept (a.block.start - a.from - 1) (a.from + 1) a.block l (omega arith) (omega arith) (omega arith)

pub returns : goal.returns
returns c =
    let a = c.args in
    let l = a.ends.now in
    taken (a.block.start - a.from - 1) (a.from + 1) a.block l (omega arith) (omega arith) (omega arith)
