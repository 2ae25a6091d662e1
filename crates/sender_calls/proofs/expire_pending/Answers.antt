-- The queue's call, of the whole sender, and then the stream's SSN.
use mathlib.Core.Path.{ap, ◌∙◌}
use Rattle.model.specs.State.{Sender, with_streams}
use Rattle.model.specs.Rings.{expire_pending}
use Rattle.model.specs.Told.{told_expired}
use Rattle.outbound_abandon.specs.LeanExpiry.{dropped, lean_expire}
use Rattle.sender_head.specs.Whole.{room_in}
use Rattle.sender_head.specs.Lent.{open_streams, lent_sender, lent_counted, back_sender, back_counted, does_of, told_of_lem, spares_lent}
use borrow.Author.Rules.{rules}
use Rattle.sender_calls.proofs.expire_pending.Goals as goal

pub returns : goal.returns
returns c =
    let a = c.args in
    let h = a.h.now in
    let ws = a.cells.now in
    let k = c.table_words-k.ensures.0 in
    let m = c.expire_pending-expired in
    let q = m.new.q in
    let p = m.new.cells in
    let l = c.lower_behind.ensures in
    let back = back_sender h ws _ k q p (search rules) in
    let told = l.0.0 ∙ ap (λ (s : Sender). with_streams (dropped m.result s.streams) s) back in
    let goes = does_of (lean_expire a.clock) (expire_pending a.clock) (told_of_lem told) (lent_sender h ws _ k) (m.ensures.0.0 (room_in ws) (open_streams h ws _ k)) in
    let stays = spares_lent h ws _ k q p (search rules) (told_expired m.result).number m.ensures.1 in
    ((goes, λ z. l.0.1 (back_counted h ws _ k q p (search rules) (m.ensures.0.1 (lent_counted h ws _ k z)))), λ n. ((stays n).0, (l.1 n).1 ∙ (stays n).1))
