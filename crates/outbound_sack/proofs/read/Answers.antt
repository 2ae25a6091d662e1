-- Each way out is one of the model's.
use Rattle.std.proofs.Common.{◌<◌, ◌≤◌, length, sym, refl, ◌∙◌, arith}
use Rattle.limits.specs.Limits.{tsns}
use Rattle.model.specs.Sacks.{covered}
use Rattle.demands.proofs.Sacks.{accepted}
use Rattle.ring.specs.Held.{held_limit}
use Rattle.payload_queue.specs.Queue.{flight_of}
use Rattle.payload_queue.specs.Model.{with_flight}
use Rattle.outbound_sack.specs.Reads.{refused, long_enough, tested, lent_within, left_as, stale_empty, stale_beyond, bad_block_lem, taken}
use Rattle.outbound_sack.proofs.read.Goals as goal

pub returns-in_default : goal.returns-in_default
returns-in_default c =
    let a = c.args in
    let p = a.packet.now in
    let f = flight_of a.q.now a.cells.now in
    (λ room s. refused room p (with_flight f s) (sym c.read.ensures ∙ c.in_default.is), λ h. h, λ r. (refl, refl))

pub returns-then-n-eq0 : goal.returns-then-n-eq0
returns-then-n-eq0 c =
    let a = c.args in
    let p = a.packet.now in
    let f = flight_of a.q.now a.cells.now in
    let e = sym c.read.ensures ∙ c.in-Some.is in
    (λ room s. stale_empty room p (with_flight f s) _ _ e (omega (arith, c.len-n.ensures, c.if-n-eq0.true)), λ h. h, λ r. (refl, refl))

pub returns-then-n-k : goal.returns-then-n-k
returns-then-n-k c =
    let a = c.args in
    let p = a.packet.now in
    let f = flight_of a.q.now a.cells.now in
    let e = sym c.read.ensures ∙ c.in-Some.is in
    let n = c.len-n.ensures in
    (λ room s. stale_beyond room p (with_flight f s) _ _ e (omega (arith, n, c.if-n-eq0.false)) (omega (arith, n, c.covered-k.ensures, c.if-n-k.true)), λ h. h, λ r. (refl, refl))

pub slice_bounds-part-count : goal.slice_bounds-part-count
slice_bounds-part-count c =
    let a = c.args in
    let e = sym c.read.ensures ∙ c.in-Some.is in
    omega (arith, long_enough a.packet.now _ _ e)

pub slice_bounds-part-start : goal.slice_bounds-part-start
slice_bounds-part-start c =
    let a = c.args in
    let e = sym c.read.ensures ∙ c.in-Some.is in
    omega (arith, long_enough a.packet.now _ _ e)

pub returns-then-not-all_within : goal.returns-then-not-all_within
returns-then-not-all_within c =
    let a = c.args in
    let p = a.packet.now in
    let f = flight_of a.q.now a.cells.now in
    let e = sym c.read.ensures ∙ c.in-Some.is in
    let n = c.len-n.ensures in
    let k = c.covered-k.ensures in
    let w = c.all_within in
    let g = sym (tested p c.in-Some.layout.cumulative c.in-Some.layout.blocks f n k w.ensures) ∙ c.if-not-all_within.true in
    let some : 0 < length f.entries = omega (arith, n, c.if-n-eq0.false) in
    let h : covered c.in-Some.layout.cumulative f ≤ length f.entries = omega (arith, n, k, c.if-n-k.false) in
    (λ room s. bad_block_lem room p (with_flight f s) _ _ e some h g, λ z. z, λ r. (refl, refl))

pub returns : goal.returns
returns c =
    let a = c.args in
    let p = a.packet.now in
    let f = flight_of a.q.now a.cells.now in
    let e = sym c.read.ensures ∙ c.in-Some.is in
    let n = c.len-n.ensures in
    let k = c.covered-k.ensures in
    let w = c.all_within in
    let y = c.if-not-all_within.false in
    let g = sym (tested p c.in-Some.layout.cumulative c.in-Some.layout.blocks f n k w.ensures) ∙ y in
    let x = c.accept.ensures (lent_within p c.in-Some.layout.cumulative c.in-Some.layout.blocks f n k w.ensures y) in
    let o : a.q.now.oldest < tsns = omega arith in
    let v = rw c.in-Some.is at c.read.type_inv in let u : c.in-Some.layout.cumulative < tsns = omega (arith, v) in
    let m : length f.entries < tsns = omega (arith, held_limit a.q.now.ring a.cells.now) in
    let some : 0 < length f.entries = omega (arith, n, c.if-n-eq0.false) in
    let h : covered c.in-Some.layout.cumulative f ≤ length f.entries = omega (arith, n, k, c.if-n-k.false) in (
      λ room s. taken room p (with_flight f s) _ _ e some h g (accepted room c.in-Some.layout.cumulative _ (with_flight f s) o u m h g) (left_as p c.in-Some.layout.cumulative c.in-Some.layout.blocks f n k w.ensures x.0.0) x.1,
      x.0.1,
      λ r. absurd (r refl),
    )
