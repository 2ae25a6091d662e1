-- The tests are the model's, in its order; behind the last, what the push answered decides, and the stream that took its own place is the one written to.
use Rattle.std.specs.Prelude.{Err}
use Rattle.std.proofs.lemmas.Result.{err_from_is_err_and}
use mathlib.Core.Path.{refl, sym, ap, ◌∙◌}
use Rattle.model.specs.Told.{told_done, told_written}
use Rattle.sender_head.specs.Whole.{room_in, sender_of}
use Rattle.sender_write.specs.Writes.{write_closed, write_long, write_far, write_over, write_refused, write_done}
use Rattle.sender_write.proofs.write.Goals as goal
use Rattle.model.specs.Answers.{Done, Written}
use Rattle.model.specs.State.{same}

pub returns-in_default : goal.returns-in_default
returns-in_default c =
    let a = c.args in
    let ws = a.cells.now in
    let e = sym c.in_default.is ∙ c.seek.ensures in
    let t = write_closed (room_in ws) a.identifier a.protocol a.offset a.length (sender_of a.h.now ws) e in
    ((t, λ z. z), λ n. (refl, refl))

pub returns-then-length-gt-MESSAGE_MAX : goal.returns-then-length-gt-MESSAGE_MAX
returns-then-length-gt-MESSAGE_MAX c =
    let f = c in
    let a = f.args in
    let ws = a.cells.now in
    let e = sym c.in-Some.is ∙ f.seek.ensures in
    let t = write_long (room_in ws) a.identifier a.protocol a.offset a.length (sender_of a.h.now ws) c.in-Some.place c.in-Some.stream e c.if-length-gt-MESSAGE_MAX.true in
    ((t, λ z. z), λ n. (refl, refl))

pub returns-then-offset-gt-OFFSET_MAX : goal.returns-then-offset-gt-OFFSET_MAX
returns-then-offset-gt-OFFSET_MAX c =
    let f = c in
    let a = f.args in
    let ws = a.cells.now in
    let e = sym c.in-Some.is ∙ f.seek.ensures in
    let t = write_far (room_in ws) a.identifier a.protocol a.offset a.length (sender_of a.h.now ws) c.in-Some.place c.in-Some.stream e c.if-length-gt-MESSAGE_MAX.false c.if-offset-gt-OFFSET_MAX.true in
    ((t, λ z. z), λ n. (refl, refl))

pub returns-then-would_overflow : goal.returns-then-would_overflow
returns-then-would_overflow c =
    let f = c in
    let a = f.args in
    let ws = a.cells.now in
    let e = sym c.in-Some.is ∙ f.seek.ensures in
    let t = write_over (room_in ws) a.identifier a.protocol a.offset a.length (sender_of a.h.now ws) c.in-Some.place c.in-Some.stream e c.if-length-gt-MESSAGE_MAX.false c.if-offset-gt-OFFSET_MAX.false c.would_overflow.ensures c.if-would_overflow.true in
    ((t, λ z. z), λ n. (refl, refl))

pub returns-in_err-enqueue : goal.returns-in_err-enqueue
returns-in_err-enqueue c =
    let g = c in
    let f = g in
    let a = f.args in
    let ws = a.cells.now in
    let e = sym c.in-Some.is ∙ f.seek.ensures in
    let t = write_refused (room_in ws) a.identifier a.protocol a.offset a.length (sender_of a.h.now ws) c.in-Some.place c.in-Some.stream e g.if-length-gt-MESSAGE_MAX.false g.if-offset-gt-OFFSET_MAX.false g.would_overflow.ensures g.if-would_overflow.false a.h.now.queue.next_message_id g.enqueue.ensures.0.0 c.in_err-enqueue.was in
    let p = err_from_is_err_and c.from_residual.result c.from_residual.ensures.1 in
    let back = p.1 ∙ ap Err p.2 in
    let z = sender_of c.enqueue.new.h c.enqueue.new.cells in (
      (ap (λ (x : Written). same x z) back ∙ t, g.enqueue.ensures.0.1),
      λ n. g.enqueue.ensures.1 (λ d. n (ap (λ (x : Written). (told_written x).number) back ∙ sym (ap (λ (x : Done). (told_done x).number) c.in_err-enqueue.was) ∙ d)),
    )

pub returns : goal.returns
returns c =
    let g = c in
    let f = g in
    let a = f.args in
    let ws = a.cells.now in
    let e = sym c.in-Some.is ∙ f.seek.ensures in
    let t = write_done (room_in ws) a.identifier a.protocol a.offset a.length (sender_of a.h.now ws) c.in-Some.place c.in-Some.stream e g.if-length-gt-MESSAGE_MAX.false g.if-offset-gt-OFFSET_MAX.false g.would_overflow.ensures g.if-would_overflow.false a.h.now.queue.next_message_id g.enqueue.ensures.0.0 c.in_ok-enqueue.was c.written-high.ensures c.replace.ensures.0 refl in
    ((t, λ z. c.replace.ensures.1 (g.enqueue.ensures.0.1 z)), λ n. absurd (n refl))
