-- What is left to note leads from the window as it is to where all of it leads.
use Rattle.std.proofs.Common.{◌≡◌, ◌+◌, ◌-◌}
use Rattle.model.specs.Sack.{blocks_from}
use Rattle.outbound_sack.specs.Ends.{noted_all}
use Rattle.outbound_sack.proofs.gaps.note_ends.Given as goal

abbrev pub invariant-loop-i : goal.invariant-loop-i
invariant-loop-i l = noted_all (l.from + 1) (blocks_from (l.count - l.i) l.i l.part) l.ends ≡ noted_all (l.from + 1) (blocks_from l.count 0 l.part) l.initial.ends
