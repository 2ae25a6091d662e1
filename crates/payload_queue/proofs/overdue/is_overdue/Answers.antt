-- The three of `overdue_entry`, one after the other.
use mathlib.Core.Path.{◌≡◌, sym, ap, ◌∙◌}
use mathlib.Core.Bool.{Bool, true, false, not, ◌&&◌, ◌||◌}
use Rattle.limits.specs.Moments.{passed}
use Rattle.payload_queue.specs.Cases.{overdue_both}
use Rattle.payload_queue.proofs.overdue.is_overdue.Goals as goal
use Rattle.payload_queue.proofs.overdue.is_overdue.Goals.{then-not-chunk, else-not-chunk}

both_yes : {v a b : Bool} → a ≡ true → v ≡ b → v ≡ (a && b)
both_yes {b = b} e q = q ∙ sym (ap (λ (x : Bool). x && b) e)

both_no : {v a : Bool} (b : Bool) → a ≡ false → v ≡ a → v ≡ (a && b)
both_no b e q = q ∙ e ∙ sym (ap (λ (x : Bool). x && b) e)

one_yes : {a : Bool} (b : Bool) → a ≡ true → a ≡ (a || b)
one_yes b e = e ∙ sym (ap (λ (x : Bool). x || b) e)

one_no : {v a b : Bool} → a ≡ false → v ≡ b → v ≡ (a || b)
one_no {b = b} e q = q ∙ sym (ap (λ (x : Bool). x || b) e)

pub returns-then-not-chunk-2 : goal.returns-then-not-chunk-2
returns-then-not-chunk-2 c =
    let a = c.args in
    let k = not a.chunk.abandoned in
    let due : c.if-not-chunk.value ≡ (k && passed a.clock a.chunk.message.deadline) = elim c.if-not-chunk.branch [ then-not-chunk w ↦ both_yes w.if-not-chunk.true (w.value-is ∙ w.reached.ensures) | else-not-chunk w ↦ both_no _ w.if-not-chunk.false w.value-is ] in
    both_yes c.if-reached.true (one_yes _ c.if-not-chunk-2.true) ∙ overdue_both a.clock a.pending a.chunk due

pub returns-else-not-chunk-2 : goal.returns-else-not-chunk-2
returns-else-not-chunk-2 c =
    let a = c.args in
    let k = not a.chunk.abandoned in
    let due : c.if-not-chunk.value ≡ (k && passed a.clock a.chunk.message.deadline) = elim c.if-not-chunk.branch [ then-not-chunk w ↦ both_yes w.if-not-chunk.true (w.value-is ∙ w.reached.ensures) | else-not-chunk w ↦ both_no _ w.if-not-chunk.false w.value-is ] in
    both_yes c.if-reached.true (one_no c.if-not-chunk-2.false c.is_awaited.ensures) ∙ overdue_both a.clock a.pending a.chunk due

pub returns-else-reached : goal.returns-else-reached
returns-else-reached c =
    let a = c.args in
    let k = not a.chunk.abandoned in
    let due : c.if-not-chunk.value ≡ (k && passed a.clock a.chunk.message.deadline) = elim c.if-not-chunk.branch [ then-not-chunk w ↦ both_yes w.if-not-chunk.true (w.value-is ∙ w.reached.ensures) | else-not-chunk w ↦ both_no _ w.if-not-chunk.false w.value-is ] in
    both_no _ c.if-reached.false (λ i. c.if-not-chunk.value) ∙ overdue_both a.clock a.pending a.chunk due
