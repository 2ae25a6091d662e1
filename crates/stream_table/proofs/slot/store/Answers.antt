-- What `pair` and the word of the small fields ensure gives the stream back (`stream_back`), and `write` puts the words into slot i.
use mathlib.Core.Path.{◌≡◌, ◌∙◌, ap}
use mathlib.Core.List.{[], ◌∷◌}
use native.Mathlib.Omega.{arith}
use lib.ListN.{set}
use Rattle.cells.specs.Slots.{slots_written}
use Rattle.stream_table.specs.Streams.{stream_of, streams, stream_in, stream_back}
use Rattle.stream_table.proofs.slot.store.Goals as goal

pub returns : goal.returns
returns c =
    let a = c.args in
    let ws = a.cells.now in
    let x = a.stream in
    let amounts = c.pair-amounts in
    let settings = c.settings_of-settings in
    let e : stream_of x.low x.high x.statistics.messages x.statistics.bytes amounts.result settings.result ≡ x = stream_back x amounts.result settings.result amounts.ensures.0 amounts.ensures.1 settings.ensures in
    ap streams c.write.ensures ∙ slots_written stream_in a.i (x.low ∷ x.high ∷ x.statistics.messages ∷ x.statistics.bytes ∷ amounts.result ∷ settings.result ∷ 0 ∷ []) ws (omega arith) ∙ ap (set (streams ws) a.i) e
