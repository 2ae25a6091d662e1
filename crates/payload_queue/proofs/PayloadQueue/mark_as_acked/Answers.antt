-- The entry is marked where it stands, and the counter gives back what it held.
use Rattle.std.proofs.Common.{ℕ, get_or, ap, ◌∙◌, arith}
use Rattle.model.specs.Lists.{adjust}
use Rattle.model.specs.State.{place}
use Rattle.model.specs.Rings.{bytes}
use Rattle.model.specs.Flight.{acknowledged}
use Rattle.chunk_slot.specs.Chunks.{blank_chunk}
use Rattle.ring.specs.Held.{held}
use Rattle.payload_queue.specs.Queue.{flight_of, least_due}
use Rattle.payload_queue.specs.Sums.{bytes_acked, counted_less}
use Rattle.payload_queue.specs.Dues.{least_acked}
use Rattle.payload_queue.specs.Cases.{entries_are, held_at}
use Rattle.payload_queue.proofs.PayloadQueue.mark_as_acked.Goals as goal

pub returns : goal.returns
returns c =
    let a = c.args in
    let ws = a.cells.now in
    let l = held a.self.now.ring ws in
    let i = c.place in
    let x = c.acknowledge_nth-held in
    let k = place a.tsn (flight_of a.self.now ws) in
    let e = x.ensures.1 ∙ ap (λ (j : ℕ). adjust acknowledged j l) i.ensures in
    let n = x.ensures.0 ∙ ap (λ (j : ℕ). (get_or l j blank_chunk).length) i.ensures in (
      entries_are a.self.now.oldest e,
      n ∙ held_at k l,
      λ h. (
        counted_less a.self.now ws a.self.now.ring x.new.cells x.result _ (omega arith) (omega (arith, ap bytes e, n, bytes_acked k l)) (omega arith) h.0,
        omega (arith, h.1, ap least_due e, least_acked k l),
      ),
    )
