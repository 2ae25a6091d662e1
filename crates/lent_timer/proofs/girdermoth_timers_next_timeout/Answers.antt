-- What the call says beside every head, at this one.
use Rattle.std.proofs.Common.{rules}
use Rattle.lent_timer.proofs.girdermoth_timers_next_timeout.Goals as goal

pub returns : goal.returns
returns c = let here = c.next_timeout.ensures c.args.s.now.head in search rules
