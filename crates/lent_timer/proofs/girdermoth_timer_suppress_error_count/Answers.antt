-- What the call says beside every head, at this one.
use Rattle.std.proofs.Common.{rules}
use Rattle.lent_timer.proofs.girdermoth_timer_suppress_error_count.Goals as goal

pub returns : goal.returns
returns c = let here = c.suppress_error_count.ensures c.args.s.now.head in search rules
