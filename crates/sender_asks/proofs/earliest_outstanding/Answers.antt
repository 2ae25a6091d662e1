-- The queue's answer, of the whole sender.
use mathlib.Core.Path.{ap, ◌∙◌}
use Rattle.model.specs.State.{Sender}
use Rattle.model.specs.Flight.{earliest_outstanding}
use Rattle.sender_head.specs.Lent.{open_streams, lent_sender}
use Rattle.sender_asks.proofs.earliest_outstanding.Goals as goal

pub returns : goal.returns
returns c =
    let a = c.args in
    let h = a.h.now in
    let ws = a.cells.now in
    let k = c.table_words-k.ensures.0 in
    c.earliest_outstanding_tsn.ensures (open_streams h ws _ k) ∙ ap (λ (s : Sender). earliest_outstanding s) (lent_sender h ws _ k)
