-- `timer::TimerTable::is_expired` is the expiry of the timer's entry (`whole`). Assumes nothing.
use Rattle.timer.proofs.Laws.{whole}
use Rattle.timer.proofs.TimerTable.is_expired.Goals as goal

pub returns : goal.returns
returns c = simp (whole c.args.self.now c.args.timer c.args.after, c.expire.ensures.answer, c.expire.ensures.left, c.index.ensures.exact)
