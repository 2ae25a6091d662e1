-- The flight's part is lent; the rings stay.
use Rattle.outbound_sack.specs.Reads.{handled}
use Rattle.std.proofs.Common.{rules}
use Rattle.outbound_sack.proofs.handle_sack.Goals as goal

pub returns : goal.returns
returns c =
    let a = c.args in
    let m = c.read in
    handled a.packet.now a.q.now a.cells.now m.new.q m.new.cells (search rules) m.ensures
