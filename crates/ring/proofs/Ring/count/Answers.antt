-- The smaller of the two.
use mathlib.Core.Path.{◌∙◌, sym, ap}
use Rattle.std.specs.Prelude.{ℕ, min}
use Rattle.ring.specs.Held.{length_held}
use Rattle.ring.proofs.Ring.count.Goals as goal

pub returns : goal.returns
returns c =
    let a = c.args in
    c.min.ensures ∙ ap (λ (r : ℕ). min a.self.now.len r) c.room.ensures ∙ sym (length_held a.self.now a.cells.now)
