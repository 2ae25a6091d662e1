-- The rows before it have another name, or another number of words.
use Rattle.std.proofs.Common.{◌≡◌, drop}
use Rattle.script.specs.Table.{found}
use Rattle.script.proofs.table.first.Given as goal

abbrev pub invariant-loop-row : goal.invariant-loop-row
invariant-loop-row l = found (drop l.row-index l.rows) l.name l.words ≡ found l.rows l.name l.words
