-- The two tests of `fits`.
use Rattle.std.proofs.Common.{◌≡◌, ℕ, ◌+◌, leb, length, ◌∙◌, ap₂, arith}
use borrow.Author.Tests.{lt-leb}
use Rattle.limits.specs.Limits.{offset_max}
use Rattle.model.specs.Messages.{pieces}
use Rattle.cells.specs.Slots.{room_of}
use Rattle.ring.specs.Held.{held, held_limit}
use Rattle.pending_queue.specs.Fragments.{fits_far, fits_near}
use Rattle.pending_queue.proofs.cutting.fitting.Goals as goal

pub returns-else-offset-le-OFFSET_MAX : goal.returns-else-offset-le-OFFSET_MAX
returns-else-offset-le-OFFSET_MAX c =
    let a = c.args in
    lt-leb a.offset offset_max (omega arith) ∙ fits_far (room_of a.cells.now) a.maximum a.offset a.length (held a.ring.now a.cells.now) (omega arith)

pub overflow_add-result : goal.overflow_add-result
overflow_add-result c = let a = c.args in omega (arith, held_limit a.ring.now a.cells.now, c.fragments.ensures.1)

pub returns-then-offset-le-OFFSET_MAX : goal.returns-then-offset-le-OFFSET_MAX
returns-then-offset-le-OFFSET_MAX c =
    let a = c.args in
    let ws = a.cells.now in
    let l = held a.ring.now ws in
    let e : c.count.result + c.fragments.result ≡ length l + pieces a.length a.maximum = ap₂ (λ (x y : ℕ). x + y) c.count.ensures c.fragments.ensures.0 in
    ap₂ leb e c.room.ensures ∙ fits_near (room_of ws) a.maximum a.offset a.length l c.if-offset-le-OFFSET_MAX.true
