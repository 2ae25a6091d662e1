-- Each exported function's contract says it, or its reply tells no refusal. Written by tools/thin from tools/calls.table.
use mathlib.Core.Path.{◌≡◌, ap}
use Rattle.model.specs.State.{Out}
use Rattle.model.specs.Calls as Model
use Rattle.model.specs.Requests.{Single, ReadSack}
use Rattle.rows.specs.Spared.{Stays}
use Rattle.flat.specs.declared.Reply.{Reply}
use Rattle.flat.specs.declared.Freed.{Freed}
use Rattle.flat.specs.declared.Fragment.{Fragment}
use Rattle.lent.specs.declared.Sender.{Sender}
use Rattle.lent.specs.Refused.{RefusedLeavesEveryWord}

-- the same head and the same cells are the same sender
whole : {s s' : Sender} → Stays s.head s.cells s'.head s'.cells → s' ≡ s
whole e = λ i. record { head = e.0 i; cells = e.1 i }

pub refused_leaves_every_word : RefusedLeavesEveryWord
refused_leaves_every_word (Single (Model.Open identifier maximum)) s s' d n = whole (d.1.1 n)
refused_leaves_every_word (Single (Model.SetReliability identifier unordered kind value)) s s' d n = whole (d.1.1 n)
refused_leaves_every_word (Single (Model.SetLow identifier low)) s s' d n = whole (d.1.1 n)
refused_leaves_every_word (Single (Model.SetHigh identifier high)) s s' d n = whole (d.1.1 n)
refused_leaves_every_word (Single (Model.Release identifier released)) s s' d n = whole (d.1.1 n)
refused_leaves_every_word (Single (Model.Write identifier protocol offset length)) s s' d n = whole (d.1.1 n)
refused_leaves_every_word (Single (Model.StartLifetimes clock)) s s' d n = whole (d.1.1 n)
refused_leaves_every_word (Single (Model.Send clock)) s s' d n = whole (d.1.1 n)
refused_leaves_every_word (Single (Model.ExpirePending clock)) s s' d n = whole (d.1.1 n)
refused_leaves_every_word (Single (Model.ExpirePendingTail clock)) s s' d n = whole (d.1.1 n)
refused_leaves_every_word (Single (Model.Abandon tsn)) s s' d n = absurd (n (ap (λ (o : Out Freed). o.says.refusal) d.1.0.0))
refused_leaves_every_word (Single (Model.Acknowledge tsn)) s s' d n = absurd (n (ap (λ (o : Out Reply). o.says.refusal) d.1.0))
refused_leaves_every_word (Single (Model.Pop tsn)) s s' d n = absurd (n (ap (λ (o : Out Fragment). o.says.refusal) d.1.0))
refused_leaves_every_word (ReadSack chunk) s s' d n = whole (d.1.1 n)
refused_leaves_every_word (Single Model.MarkAll) s s' d n = absurd (n (ap (λ (o : Out Reply). o.says.refusal) d.1.0))
refused_leaves_every_word (Single (Model.Ask (Model.ExpiredInflight clock room))) s s' d n = whole (d.4.2.1 n, d.4.2.0)
refused_leaves_every_word (Single (Model.Ask (Model.Get tsn))) s s' d n = d.1
refused_leaves_every_word (Single (Model.Ask (Model.IsAbandoned tsn))) s s' d n = d.1
refused_leaves_every_word (Single (Model.Ask Model.PeekPending)) s s' d n = d.1
refused_leaves_every_word (Single (Model.Ask Model.NextMessage)) s s' d n = d.1
refused_leaves_every_word (Single (Model.Ask Model.NextTsn)) s s' d n = d.1
refused_leaves_every_word (Single (Model.Ask Model.PendingLength)) s s' d n = d.1
refused_leaves_every_word (Single (Model.Ask Model.PendingBytes)) s s' d n = d.1
refused_leaves_every_word (Single (Model.Ask Model.InflightLength)) s s' d n = d.1
refused_leaves_every_word (Single (Model.Ask Model.InflightBytes)) s s' d n = d.1
refused_leaves_every_word (Single (Model.Ask Model.EarliestOutstanding)) s s' d n = d.1
refused_leaves_every_word (Single (Model.Ask (Model.PendingContainsStream identifier))) s s' d n = d.1
refused_leaves_every_word (Single (Model.Ask (Model.ContainsStream identifier))) s s' d n = d.1
refused_leaves_every_word (Single (Model.Ask (Model.BufferedAmount identifier))) s s' d n = d.1
refused_leaves_every_word (Single (Model.Ask (Model.LowThreshold identifier))) s s' d n = d.1
refused_leaves_every_word (Single (Model.Ask (Model.HighThreshold identifier))) s s' d n = d.1
refused_leaves_every_word (Single (Model.Ask (Model.Statistics identifier))) s s' d n = d.1
