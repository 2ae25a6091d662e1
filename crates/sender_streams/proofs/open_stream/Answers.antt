-- 2, 4 and 5 in this order, and then the stream joins: a law for each way out.
use mathlib.Core.Path.{refl}
use native.Mathlib.Omega.{arith}
use Rattle.sender_head.specs.Whole.{room_in, sender_of}
use Rattle.sender_streams.specs.Changes.{open_outside, open_again, open_full, open_done}
use Rattle.sender_streams.proofs.open_stream.Goals as goal

pub returns-then-maximum-lt1 : goal.returns-then-maximum-lt1
returns-then-maximum-lt1 c =
    let a = c.args in
    ((open_outside (room_in a.cells.now) a.identifier a.maximum (sender_of a.h.now a.cells.now) (λ p q. omega arith), λ k. k), λ n. (refl, refl))

pub returns-then-is_some : goal.returns-then-is_some
returns-then-is_some c =
    let a = c.args in
    ((open_again (room_in a.cells.now) a.identifier a.maximum (sender_of a.h.now a.cells.now) (omega arith) (omega arith) c.seek.result c.seek.ensures c.if-is_some.ensures, λ k. k), λ n. (refl, refl))

pub returns-then-join : goal.returns-then-join
returns-then-join c =
    let a = c.args in
    let j = c.join.ensures in
    ((open_done (room_in a.cells.now) a.identifier a.maximum (sender_of a.h.now a.cells.now) (omega arith) (omega arith) c.seek.result c.seek.ensures c.if-is_some.ensures j.1 c.new-fresh.ensures j.0.0 c.if-join.true, j.0.1), λ n. absurd (n refl))

pub returns-else-join : goal.returns-else-join
returns-else-join c =
    let a = c.args in
    let j = c.join.ensures in
    ((open_full (room_in a.cells.now) a.identifier a.maximum (sender_of a.h.now a.cells.now) (omega arith) (omega arith) c.seek.result c.seek.ensures c.if-is_some.ensures j.1 c.new-fresh.ensures j.0.0 c.if-join.false, j.0.1), λ n. j.2 c.if-join.false)
