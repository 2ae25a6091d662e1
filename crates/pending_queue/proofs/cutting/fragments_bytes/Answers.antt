-- All bytes are cut, unless the maximum is 0.
use Rattle.std.proofs.Common.{sym, ap}
use Rattle.pending_queue.specs.Fragments.{bytes_of, bytes_some}
use Rattle.pending_queue.proofs.cutting.fragments_bytes.Goals as goal

pub returns-then-maximum-eq0 : goal.returns-then-maximum-eq0
returns-then-maximum-eq0 c = let a = c.args in sym (ap (bytes_of a.length) c.if-maximum-eq0.true)

pub returns-else-maximum-eq0 : goal.returns-else-maximum-eq0
returns-else-maximum-eq0 c = let a = c.args in bytes_some a.length a.maximum c.if-maximum-eq0.false
