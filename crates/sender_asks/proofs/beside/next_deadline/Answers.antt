-- The earlier of the two, of the whole sender.
use mathlib.Core.Path.{ap, ap₂, ◌∙◌}
use Rattle.limits.specs.Moments.{earlier, Moment}
use Rattle.model.specs.State.{Sender}
use Rattle.sender_head.specs.Lent.{lent_sender}
use Rattle.sender_asks.specs.Beside.{front_deadline, soonest}
use Rattle.sender_asks.proofs.beside.next_deadline.Goals as goal

pub returns : goal.returns
returns c =
    let a = c.args in
    let h = a.h.now in
    let k = c.table_words-k.ensures.0 in
    c.earlier.ensures
    ∙ ap₂ (λ (x y : Moment). earlier x y)
    (c.front_deadline-first.ensures ∙ ap front_deadline c.peek_pending-front.ensures)
    (c.flight_deadline-flying.ensures ∙ ap (λ (s : Sender). soonest s.flight.entries) (lent_sender h a.cells.now _ k))
