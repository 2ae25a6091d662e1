-- The smaller of the two.
use mathlib.Core.Path.{◌∙◌, sym, ap}
use Rattle.std.specs.Prelude.{ℕ, min}
use Rattle.stream_table.specs.Tables.{length_table}
use Rattle.stream_table.proofs.len.Goals as goal

pub returns : goal.returns
returns c =
    let a = c.args in
    c.min.ensures ∙ ap (λ (r : ℕ). min a.count r) c.room.ensures ∙ sym (length_table a.count a.cells.now)
