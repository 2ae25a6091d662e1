-- The queue's answer, of the whole sender.
use mathlib.Core.Path.{ap, ◌∙◌}
use Rattle.model.specs.State.{Sender}
use mathlib.Core.List.{◌++◌}
use Rattle.model.specs.Flight.{has_stream}
use Rattle.sender_head.specs.Lent.{lent_sender}
use Rattle.sender_asks.proofs.pending_contains_stream.Goals as goal

pub returns : goal.returns
returns c =
    let a = c.args in
    let h = a.h.now in
    let ws = a.cells.now in
    let k = c.table_words-k.ensures.0 in
    c.pending_contains_stream.ensures ∙ ap (λ (s : Sender). has_stream a.identifier (s.pending.unordered ++ s.pending.ordered)) (lent_sender h ws _ k)
