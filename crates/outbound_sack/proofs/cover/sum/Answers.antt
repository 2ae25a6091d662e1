-- What is summed and what is left are all.
use Rattle.std.proofs.Common.{◌≡◌, ℕ, drop, ap, arith}
use Rattle.model.specs.Rings.{bytes}
use Rattle.ring.specs.Held.{held}
use Rattle.ring.specs.Sums.{held_bytes}
use Rattle.outbound_sack.specs.Covers.{bytes_turn}
use Rattle.outbound_sack.proofs.cover.sum.Goals as goal

pub loop-i-init : goal.loop-i-init
loop-i-init c = omega arith

pub overflow_add-sum : goal.overflow_add-sum
overflow_add-sum c =
    let a = c.args in
    let l = c.loop-i in
    let e = held a.ring a.cells.now in
    record { fits = omega (arith, l.invariant, c.nth_length.ensures, bytes_turn l.i e, held_bytes a.ring a.cells.now) }

pub loop-i-preserved : goal.loop-i-preserved
loop-i-preserved c =
    let a = c.args in
    let l = c.loop-i in
    let e = held a.ring a.cells.now in
    omega (arith, l.invariant, c.nth_length.ensures, bytes_turn l.i e)

pub returns : goal.returns
returns c =
    let a = c.args in
    let l = c.loop-i in
    let e = held a.ring a.cells.now in
    let n : l.i ≡ a.k = omega arith in
    omega (arith, l.invariant, ap (λ (j : ℕ). bytes (drop j e)) n)
