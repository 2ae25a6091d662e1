-- The table is the one of the specs.
use Rattle.script.specs.Table.{table, row_of}
use Rattle.script.proofs.table.find.Goals as goal

pub returns : goal.returns
unfolding table row_of
returns c = c.first.ensures
