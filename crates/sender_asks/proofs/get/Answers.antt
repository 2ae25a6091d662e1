-- The queue's answer, of the whole sender.
use mathlib.Core.Path.{ap, ◌∙◌}
use Rattle.model.specs.State.{Sender, in_flight}
use Rattle.model.specs.Flight.{found}
use Rattle.sender_head.specs.Lent.{lent_sender}
use Rattle.sender_asks.proofs.get.Goals as goal

pub returns : goal.returns
returns c =
    let a = c.args in
    let h = a.h.now in
    let ws = a.cells.now in
    let k = c.table_words-k.ensures.0 in
    c.get.ensures ∙ ap (λ (s : Sender). found (in_flight a.tsn s.flight)) (lent_sender h ws _ k)
