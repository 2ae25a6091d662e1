-- The cases of `popped_of`; the counter gives back what the oldest held.
use Rattle.std.proofs.Common.{sym, ap, refl, ◌∙◌, arith}
use Rattle.ring.specs.Held.{held, first_one}
use Rattle.payload_queue.specs.Queue.{flight_of, outcome}
use Rattle.payload_queue.specs.Sums.{counted_less}
use Rattle.payload_queue.specs.Dues.{least_rest}
use Rattle.payload_queue.specs.Cases.{bytes_rest, pop_other, pop_none, pop_one}
use Rattle.payload_queue.proofs.PayloadQueue.pop.Goals as goal

pub returns-then-tsn-self : goal.returns-then-tsn-self
returns-then-tsn-self c =
    let a = c.args in
    let ws = a.cells.now in
    (pop_other a.tsn (flight_of a.self.now ws) (held a.self.now.ring ws) c.if-tsn-self.true, λ h. h)

pub returns-in_err-chunk : goal.returns-in_err-chunk
returns-in_err-chunk c =
    let a = c.args in
    let ws = a.cells.now in
    (ap (outcome a.self.now ws) c.from_residual.ensures ∙ pop_none a.tsn (flight_of a.self.now ws) (held a.self.now.ring ws) (sym c.peek.ensures ∙ c.in_err-chunk.was), λ h. h)

pub returns : goal.returns
returns c =
    let a = c.args in
    let ws = a.cells.now in
    let l = held a.self.now.ring ws in
    let e = first_one l _ (sym c.peek.ensures ∙ c.in_ok-chunk.was) in
    let rest = c.drop_first in (
      pop_one a.tsn (flight_of a.self.now ws) l c.if-tsn-self.false e rest.ensures refl,
      λ h. (counted_less a.self.now ws _ ws _ _ (omega arith) (bytes_rest l e rest.ensures) (omega arith) h.0, omega (arith, h.1, least_rest l e rest.ensures)),
    )
