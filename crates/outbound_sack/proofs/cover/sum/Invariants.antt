-- What is summed and what is left are all.
use Rattle.std.proofs.Common.{◌≡◌, ◌+◌, drop}
use Rattle.model.specs.Rings.{bytes}
use Rattle.ring.specs.Held.{held}
use Rattle.outbound_sack.proofs.cover.sum.Given as goal

abbrev pub invariant-loop-i : goal.invariant-loop-i
invariant-loop-i l = l.sum + bytes (drop l.i (held l.ring l.cells)) ≡ bytes (held l.ring l.cells)
