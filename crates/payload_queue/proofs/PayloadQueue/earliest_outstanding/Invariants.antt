-- A loop that reads: the answer for what is left is the answer for all.
use Rattle.std.proofs.Common.{◌≡◌, drop}
use Rattle.model.specs.Rings.{tsns_of}
use Rattle.model.specs.Flight.{outstanding, earliest}
use Rattle.ring.specs.Held.{held}
use Rattle.payload_queue.proofs.PayloadQueue.earliest_outstanding.Given as goal

abbrev pub invariant-loop-i : goal.invariant-loop-i
invariant-loop-i l = (earliest (tsns_of outstanding l.tsn (drop l.i (held l.self.ring l.cells))) ≡ earliest (tsns_of outstanding l.initial.tsn (held l.self.ring l.cells)))
