-- The closure is the same after each call.
use Rattle.std.proofs.Common.{◌+◌, rules, arith}
use Rattle.octets.specs.Numbers.{byte_at}
use Rattle.octets.proofs.Calls.{answers}
use Rattle.octets.proofs.Room.{byte_in_rest}
use Rattle.octets.proofs.part.Goals as goal

pub returns : goal.returns
returns g c = λ k h. answers _ (λ i. byte_at (c.args.at + i) c.args.bytes.now) _ (λ i y q r. (search (rules, byte_in_rest), search rules)) c.from_fn.result 0 g.row.N c.from_fn.ensures.items.each k (omega arith) (omega arith)
