-- A slot below the count is written.
use native.Mathlib.Omega.{arith}
use Rattle.stream_table.specs.Tables.{table_set}
use Rattle.stream_table.proofs.update.Goals as goal

pub returns-then-place-count : goal.returns-then-place-count
returns-then-place-count c =
    let a = c.args in
    let x = c.store in
    table_set a.count a.cells.now x.new.cells a.stream a.place x.ensures (omega arith)
