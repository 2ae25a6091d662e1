-- By the flag.
use Rattle.std.proofs.Common.{Bool, set, sym, ap, arith}
use Rattle.model.specs.Lists.{when◌then◌else◌}
use Rattle.payload_queue.proofs.overdue.note.Goals as goal

pub returns-else-yes : goal.returns-else-yes
returns-else-yes c =
    let a = c.args in
    let b = c.if-yes.false in
    (rw b (omega arith), sym (ap (λ (t : Bool). when t then set a.out.now a.k a.tsn else a.out.now) b))

pub offset_bounds-out-k : goal.offset_bounds-out-k
offset_bounds-out-k c = omega (arith, c.requires (c.if-yes.true))

pub bounds-out-k : goal.bounds-out-k
bounds-out-k c = omega (arith, c.requires (c.if-yes.true))

pub overflow_add-result : goal.overflow_add-result
overflow_add-result c = omega (arith, c.requires (c.if-yes.true))

pub returns-then-yes : goal.returns-then-yes
returns-then-yes c =
    let a = c.args in
    let b = c.if-yes.true in
    (rw b, sym (ap (λ (t : Bool). when t then set a.out.now a.k a.tsn else a.out.now) b))
