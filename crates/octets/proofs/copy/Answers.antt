-- The bytes that there is room for.
use Rattle.std.proofs.Common.{◌+◌, ◌-◌, arith, rules}
use Rattle.octets.proofs.Room.{room}
use Rattle.octets.proofs.copy.Goals as goal

pub returns : goal.returns
returns c =
    let a = c.args in
    room a.from.now a.out.now a.at c.min-start.result (c.min-start.result + c.min-count.result - c.min-start.result) (omega arith) (omega arith) (search rules)
