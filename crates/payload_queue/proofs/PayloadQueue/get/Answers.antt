-- The place of the TSN is its index.
use Rattle.std.proofs.Common.{ℕ, ap, ◌∙◌}
use lib.ListN.{get_elem?}
use Rattle.model.specs.Flight.{found}
use Rattle.ring.specs.Held.{held}
use Rattle.payload_queue.proofs.PayloadQueue.get.Goals as goal

pub returns : goal.returns
returns c =
    let a = c.args in
    c.get.ensures ∙ ap (λ (i : ℕ). found (get_elem? (held a.self.now.ring a.cells.now) i)) c.place.ensures
