-- The ring is longer by the chunk, and the counter by its bytes; or nothing changes.
use Rattle.std.proofs.Common.{ℕ, ◌+◌, ◌%◌, ◌^◌, sym, ap, ◌∙◌, arith}
use Rattle.model.specs.Rings.{bytes}
use Rattle.cells.specs.Slots.{room_of}
use Rattle.chunk_slot.specs.Meaning.{chunk_for}
use Rattle.ring.specs.Held.{held}
use Rattle.payload_queue.specs.Queue.{due_of, least_due}
use Rattle.payload_queue.specs.Sums.{bytes_pushed, bytes_stay, counted_more}
use Rattle.payload_queue.specs.Dues.{least_stay, least_pushed}
use Rattle.payload_queue.specs.Cases.{entries_are}
use Rattle.payload_queue.proofs.PayloadQueue.push.Goals as goal

pub returns-else-push : goal.returns-else-push
returns-else-push c =
    let a = c.args in
    let p = c.push in
    let ws = a.cells.now in
    let full = sym p.ensures.1 ∙ c.if-push.false in (
      entries_are a.self.now.oldest p.ensures.0,
      λ h. (
        h.0 ∙ sym (ap bytes p.ensures.0 ∙ bytes_stay (room_of ws) (held a.self.now.ring ws) (chunk_for a.words) full),
        omega (arith, h.1, ap least_due p.ensures.0, least_stay (room_of ws) (held a.self.now.ring ws) (chunk_for a.words) full),
      ),
    )

pub returns-then-push : goal.returns-then-push
returns-then-push c =
    let a = c.args in
    let p = c.push in
    let ws = a.cells.now in
    let room = sym p.ensures.1 ∙ c.if-push.true in (
      entries_are a.self.now.oldest p.ensures.0,
      λ h. (
        counted_more a.self.now ws p.new.self p.new.cells (chunk_for a.words).length _ (ap bytes p.ensures.0 ∙ bytes_pushed (room_of ws) (held a.self.now.ring ws) (chunk_for a.words) room) (ap (λ (n : ℕ). (a.self.now.bytes + n) % 2 ^ 64) c.length_of-length.ensures) h.0,
        omega (arith, h.1, c.lowered-self.ensures, ap due_of c.unpack.ensures, ap least_due p.ensures.0, least_pushed (room_of ws) (held a.self.now.ring ws) (chunk_for a.words) room),
      ),
    )
