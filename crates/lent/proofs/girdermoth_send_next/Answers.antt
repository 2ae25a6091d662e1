-- The room of 6,656 words is 01's, so the flat call's own promise is this one.
use Rattle.std.proofs.Common.{subst, arith}
use Rattle.limits.specs.Limits.{Room}
use Rattle.sender.specs.Sizes.{sizes}
use Rattle.flat_calls.specs.Says as Flat
use Rattle.lent.proofs.girdermoth_send_next.Goals as goal

pub returns : goal.returns
returns c =
    let s = c.args.s.now in
    let r = c.send_next in
    subst (λ (room : Room). Flat.SendNext room c.args.clock s.head s.cells r.new.head r.new.cells r.result) (sizes s.cells (omega arith)) r.ensures
