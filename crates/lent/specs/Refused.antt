-- A refusal changes nothing, of the bytes as well. Written by tools/thin from tools/calls.table.
use Rattle.std.specs.Prelude.{◌≡◌, ℕ}
use Rattle.limits.specs.Refusals.{done}
use Rattle.model.specs.Calls as Model
use Rattle.model.specs.Requests.{Request, Single, ReadSack}
use Rattle.lent.specs.declared.Sender.{Sender}
use Rattle.lent.specs.Called.{Called}

-- the number that the reply to a request tells
abbrev pub replied : (r : Request) (s s' : Sender) → Called r s s' → ℕ
replied (Single (Model.Open identifier maximum)) s s' d = d.0.refusal
replied (Single (Model.SetReliability identifier unordered kind value)) s s' d = d.0.refusal
replied (Single (Model.SetLow identifier low)) s s' d = d.0.refusal
replied (Single (Model.SetHigh identifier high)) s s' d = d.0.refusal
replied (Single (Model.Release identifier released)) s s' d = d.0.refusal
replied (Single (Model.Write identifier protocol offset length)) s s' d = d.0.refusal
replied (Single (Model.StartLifetimes clock)) s s' d = d.0.refusal
replied (Single (Model.Send clock)) s s' d = d.0.refusal
replied (Single (Model.ExpirePending clock)) s s' d = d.0.refusal
replied (Single (Model.ExpirePendingTail clock)) s s' d = d.0.refusal
replied (Single (Model.Abandon tsn)) s s' d = d.0.refusal
replied (Single (Model.Acknowledge tsn)) s s' d = d.0.refusal
replied (Single (Model.Pop tsn)) s s' d = d.0.refusal
replied (ReadSack chunk) s s' d = d.0.refusal
replied (Single Model.MarkAll) s s' d = d.0.refusal
replied (Single (Model.Ask (Model.ExpiredInflight clock room))) s s' d = d.2.refusal
replied (Single (Model.Ask (Model.Get tsn))) s s' d = d.0.refusal
replied (Single (Model.Ask (Model.IsAbandoned tsn))) s s' d = d.0.refusal
replied (Single (Model.Ask Model.PeekPending)) s s' d = d.0.refusal
replied (Single (Model.Ask Model.NextMessage)) s s' d = d.0.refusal
replied (Single (Model.Ask Model.NextTsn)) s s' d = d.0.refusal
replied (Single (Model.Ask Model.PendingLength)) s s' d = d.0.refusal
replied (Single (Model.Ask Model.PendingBytes)) s s' d = d.0.refusal
replied (Single (Model.Ask Model.InflightLength)) s s' d = d.0.refusal
replied (Single (Model.Ask Model.InflightBytes)) s s' d = d.0.refusal
replied (Single (Model.Ask Model.EarliestOutstanding)) s s' d = d.0.refusal
replied (Single (Model.Ask (Model.PendingContainsStream identifier))) s s' d = d.0.refusal
replied (Single (Model.Ask (Model.ContainsStream identifier))) s s' d = d.0.refusal
replied (Single (Model.Ask (Model.BufferedAmount identifier))) s s' d = d.0.refusal
replied (Single (Model.Ask (Model.LowThreshold identifier))) s s' d = d.0.refusal
replied (Single (Model.Ask (Model.HighThreshold identifier))) s s' d = d.0.refusal
replied (Single (Model.Ask (Model.Statistics identifier))) s s' d = d.0.refusal

-- whatever sender was lent, reached by calls or not: where the reply to a request tells a refusal, the sender is the one that was lent, whole
abbrev pub RefusedLeavesEveryWord : Type 0
RefusedLeavesEveryWord = (r : Request) (s s' : Sender) (d : Called r s s') → (replied r s s' d ≡ done → ⊥) → s' ≡ s
