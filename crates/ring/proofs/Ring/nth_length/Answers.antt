-- The slot holds the i-th element of `held`, so this field is that one's.
use mathlib.Core.Path.{◌∙◌, ap}
use Rattle.model.specs.declared.Chunk.{Chunk}
use Rattle.ring.specs.Held.{held_get}
use Rattle.ring.proofs.Ring.nth_length.Goals as goal

pub returns : goal.returns
returns c =
    let a = c.args in
    let s = c.slot-at in
    c.length_at.ensures ∙ ap (λ (x : Chunk). x.length) (held_get a.self.now a.cells.now a.i s.result s.ensures)
