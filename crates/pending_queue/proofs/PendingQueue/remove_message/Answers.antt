-- Each ring by itself; the runs' bytes leave the counter.
use Rattle.std.proofs.Common.{◌≡◌, ℕ, ◌+◌, sym, ◌∙◌, ap₂, arith, rules}
use Rattle.model.specs.State.{Pending, is_of}
use Rattle.model.specs.Rings.{bytes}
use Rattle.rows.specs.Walks.{take_while}
use Rattle.ring.specs.Sums.{bytes_append}
use Rattle.pending_queue.specs.Queue.{pending_in, bytes_in, both, counted_less}
use Rattle.pending_queue.specs.Runs.{later_is, later_of, runs, runs_bytes, last_append}
use Rattle.pending_queue.proofs.PendingQueue.remove_message.Goals as goal

pub overflow_add-bytes : goal.overflow_add-bytes
overflow_add-bytes c = omega (arith, c.remove_run-other.ensures.3, c.remove_run-one.ensures.3)

pub returns : goal.returns
returns c =
    let a = c.args in
    let p = pending_in a.self.now a.unordered.now a.ordered.now in
    let x = take_while (is_of a.number) p.ordered in
    let y = take_while (is_of a.number) p.unordered in
    let one = c.remove_run-one in
    let other = c.remove_run-other in
    let t = both c.still_selected-self.ensures other.ensures.0 one.ensures.0 in
    let d : one.result.bytes + other.result.bytes ≡ bytes (runs a.number p) = omega (arith, one.ensures.1, other.ensures.1, bytes_append x y) in (
      t,
      d,
      c.or.ensures ∙ later_is one.result.last other.result.last ∙ ap₂ later_of one.ensures.2 other.ensures.2 ∙ sym (last_append x y),
      counted_less a.self.now a.unordered.now a.ordered.now (one.result.bytes + other.result.bytes) (ap₂ (λ (z : Pending) (k : ℕ). bytes_in z + k) t d ∙ runs_bytes a.number p) (search rules) (omega arith),
    )
