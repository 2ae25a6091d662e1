-- In one ring, or else in the other.
use Rattle.std.proofs.Common.{Bool, ◌||◌, eqb, sym, ap, ◌∙◌}
use Rattle.model.specs.declared.Chunk.{Chunk}
use Rattle.model.specs.Flight.{has_stream}
use Rattle.rows.specs.Walks.{some_in}
use Rattle.ring.specs.Held.{held}
use Rattle.pending_queue.proofs.PendingQueue.contains_stream.Goals as goal

pub returns-then-has_stream : goal.returns-then-has_stream
returns-then-has_stream c =
    let a = c.args in
    let m = held a.self.now.ordered a.ordered.now in
    c.if-has_stream.true ∙ ap (λ (b : Bool). b || has_stream a.stream m) (sym c.if-has_stream.true) ∙ some_in (λ (d : Chunk). eqb d.message.stream a.stream) (held a.self.now.unordered a.unordered.now) m c.has_stream.ensures

pub returns-else-has_stream : goal.returns-else-has_stream
returns-else-has_stream c =
    let a = c.args in
    let m = held a.self.now.ordered a.ordered.now in
    c.has_stream-else-has_stream.ensures ∙ ap (λ (b : Bool). b || has_stream a.stream m) (sym c.if-has_stream.false) ∙ some_in (λ (d : Chunk). eqb d.message.stream a.stream) (held a.self.now.unordered a.unordered.now) m c.has_stream.ensures
