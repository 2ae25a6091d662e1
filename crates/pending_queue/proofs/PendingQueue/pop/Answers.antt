-- The head is the front of the ring that is ahead, and its bytes leave the counter.
use Rattle.std.proofs.Common.{◌+◌, true, false, sym, ap, ◌∙◌}
use Rattle.limits.specs.Flags.{is_set}
use Rattle.model.specs.State.{Pending, lane_of}
use Rattle.chunk_slot.specs.Meaning.{chunk_for, found_for}
use Rattle.ring.specs.declared.Ring.{Ring}
use Rattle.ring.specs.Held.{held}
use Rattle.pending_queue.specs.Queue.{under_way_of, pending_in, bytes_in, both, counted_less}
use Rattle.pending_queue.specs.Fronts.{head_at, popped_none, popped_one, popped_bytes}
use Rattle.pending_queue.proofs.PendingQueue.pop.Goals as goal

pub returns-in_err-words : goal.returns-in_err-words
returns-in_err-words c =
    let a = c.args in
    let p = pending_in a.self.now a.unordered.now a.ordered.now in
    let ahead = sym (ap lane_of c.if-from_unordered.true) ∙ c.from_unordered.ensures in
    let q = sym (head_at p ahead c.front.ensures) ∙ ap found_for c.in_err-words.was in
    (popped_none p q, ap found_for c.from_residual.ensures ∙ sym q, λ h. h)

pub returns-in_ok-words : goal.returns-in_ok-words
returns-in_ok-words c =
    let a = c.args in
    let p = pending_in a.self.now a.unordered.now a.ordered.now in
    let ahead = sym (ap lane_of c.if-from_unordered.true) ∙ c.from_unordered.ensures in
    let chunk = chunk_for c.in_ok-words.words in
    let q = sym (head_at p ahead c.front.ensures) ∙ ap found_for c.in_ok-words.was in
    let k = c.leave in
    let s = is_set k.new.self.selected in
    let f = both (ap (under_way_of s) k.ensures.2) (ap (λ (g : Ring). held g a.unordered.now) k.ensures.3) (ap (λ (g : Ring). held g a.ordered.now) k.ensures.4) in
    let t = f ∙ popped_one p true chunk k.ensures.1 ahead q c.drop_first.ensures in
    (t, sym q, counted_less a.self.now a.unordered.now a.ordered.now chunk.length (ap (λ (x : Pending). bytes_in x + chunk.length) t ∙ popped_bytes p chunk q) k.ensures.5 k.ensures.0)

pub returns-in_err-words-2 : goal.returns-in_err-words-2
returns-in_err-words-2 c =
    let a = c.args in
    let p = pending_in a.self.now a.unordered.now a.ordered.now in
    let ahead = sym (ap lane_of c.if-from_unordered.false) ∙ c.from_unordered.ensures in
    let q = sym (head_at p ahead c.front-else-from_unordered.ensures) ∙ ap found_for c.in_err-words-2.was in
    (popped_none p q, ap found_for c.from_residual-in_err-words-2.ensures ∙ sym q, λ h. h)

pub returns-in_ok-words-2 : goal.returns-in_ok-words-2
returns-in_ok-words-2 c =
    let a = c.args in
    let p = pending_in a.self.now a.unordered.now a.ordered.now in
    let ahead = sym (ap lane_of c.if-from_unordered.false) ∙ c.from_unordered.ensures in
    let chunk = chunk_for c.in_ok-words-2.words in
    let q = sym (head_at p ahead c.front-else-from_unordered.ensures) ∙ ap found_for c.in_ok-words-2.was in
    let k = c.leave-else-from_unordered in
    let s = is_set k.new.self.selected in
    let f = both (ap (under_way_of s) k.ensures.2) (ap (λ (g : Ring). held g a.unordered.now) k.ensures.3) (ap (λ (g : Ring). held g a.ordered.now) k.ensures.4) in
    let t = f ∙ popped_one p false chunk k.ensures.1 ahead q c.drop_first-else-from_unordered.ensures in
    (t, sym q, counted_less a.self.now a.unordered.now a.ordered.now chunk.length (ap (λ (x : Pending). bytes_in x + chunk.length) t ∙ popped_bytes p chunk q) k.ensures.5 k.ensures.0)
