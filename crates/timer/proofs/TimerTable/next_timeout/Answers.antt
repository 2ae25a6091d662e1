-- `timer::TimerTable::next_timeout` folds the deadlines in turn, which gives the smallest of all (`soonest_is`). Assumes nothing.
use mathlib.Core.List.{map}
use mathlib.Core.Path.{◌∙◌}
use Rattle.std.proofs.Common.{rules, tests, None}
use Rattle.std.proofs.lemmas.Iterator.{YieldsList-from_slice, YieldsList-from_map}
use Rattle.std.proofs.lemmas.Iterator.Consumers.{YieldsList-at, fold_from_yields_List}
use Rattle.limits.specs.Moments.{earlier}
use Rattle.timer.specs.Entries.{order}
use Rattle.timer.specs.Calls.{get_of}
use Rattle.timer.proofs.Laws.{soonest_is}
use Rattle.timer.proofs.TimerTable.next_timeout.Goals as goal

pub returns : goal.returns
returns c =
    fold_from_yields_List _ earlier None c.fold.result c.fold.ensures.ran
    (YieldsList-from_map _ (get_of c.args.self.now) (YieldsList-at c.map.ensures.source (YieldsList-from_slice order (cc))) c.map.ensures.closure (λ x r q k. search (rules, tests)))
    (λ a x b q k. search (rules, tests))
    ∙ soonest_is (map (get_of c.args.self.now) order)
