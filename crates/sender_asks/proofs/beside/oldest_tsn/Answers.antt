-- By how many are in flight.
use native.Mathlib.Omega.{arith}
use Rattle.sender_head.specs.Whole.{sender_of}
use Rattle.sender_asks.specs.Beside.{none_flies, oldest_flies}
use Rattle.sender_asks.proofs.beside.oldest_tsn.Goals as goal

pub returns-then-n-lt1 : goal.returns-then-n-lt1
returns-then-n-lt1 c =
    let a = c.args in
    let s = sender_of a.h.now a.cells.now in
    none_flies s.flight.oldest s.flight.entries c.inflight_length-n.ensures (omega arith)

pub returns-else-n-lt1 : goal.returns-else-n-lt1
returns-else-n-lt1 c =
    let a = c.args in
    let s = sender_of a.h.now a.cells.now in
    oldest_flies s.flight.oldest s.flight.entries c.inflight_length-n.ensures (omega arith)
