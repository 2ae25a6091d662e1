-- The run of the message's entries is given up, and the counter gives back what they held.
use Rattle.std.proofs.Common.{ℕ, ap, ◌∙◌, arith}
use Rattle.model.specs.Rings.{bytes}
use Rattle.ring.specs.Held.{held}
use Rattle.payload_queue.specs.Queue.{least_due}
use Rattle.payload_queue.specs.Sums.{counted_less}
use Rattle.payload_queue.specs.OneRun.{first_of, given_up_from, held_from, from_bytes}
use Rattle.payload_queue.specs.Dues.{least_given}
use Rattle.payload_queue.specs.Cases.{entries_are}
use Rattle.payload_queue.proofs.PayloadQueue.abandon_message.Goals as goal

pub returns : goal.returns
returns c =
    let a = c.args in
    let ws = a.cells.now in
    let l = held a.self.now.ring ws in
    let f = c.first_of-from.ensures in
    let g = c.give_up_run-released in
    let k = first_of a.number a.near l in
    let e = g.ensures.1 ∙ ap (λ (i : ℕ). given_up_from a.number i l) f in
    let h = g.ensures.0 ∙ ap (λ (i : ℕ). held_from a.number i l) f in (
      entries_are a.self.now.oldest e,
      h,
      λ n. (
        counted_less a.self.now ws a.self.now.ring g.new.cells g.result _ (omega arith) (omega (arith, ap bytes e, h, from_bytes a.number k l)) (omega arith) n.0,
        omega (arith, n.1, ap least_due e, least_given a.number k l),
      ),
    )
