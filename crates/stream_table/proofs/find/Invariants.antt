-- No stream before i has the identifier, and the answer is that of the search from i on.
use Rattle.stream_table.specs.Tables.{table_of, Seeking}
use Rattle.stream_table.proofs.find.Given as goal

abbrev pub invariant-loop-i : goal.invariant-loop-i
invariant-loop-i l = Seeking l.identifier (table_of l.count l.cells) l.i
