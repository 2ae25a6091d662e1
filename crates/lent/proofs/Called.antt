-- Each exported function follows the model's request. Written by tools/thin from tools/calls.table.
use Rattle.model.specs.Calls as Model
use Rattle.model.specs.Requests.{Request, Single, ReadSack}
use Rattle.sender.specs.Runs.{Follows}
use Rattle.sender.proofs.Runs.{gone, leant, stayed}
use Rattle.lent.specs.declared.Sender.{Sender}
use Rattle.lent.specs.Called.{Called}
use Rattle.lent.specs.Reached.{state_of, Sums}

pub follows : (r : Request) (s s' : Sender) → Called r s s' → Follows state_of Sums r s s'
follows (Single (Model.Open identifier maximum)) s s' d = gone d.1.0
follows (Single (Model.SetReliability identifier unordered kind value)) s s' d = gone d.1.0
follows (Single (Model.SetLow identifier low)) s s' d = gone d.1.0
follows (Single (Model.SetHigh identifier high)) s s' d = gone d.1.0
follows (Single (Model.Release identifier released)) s s' d = gone d.1.0
follows (Single (Model.Write identifier protocol offset length)) s s' d = gone d.1.0
follows (Single (Model.StartLifetimes clock)) s s' d = leant d.1.0
follows (Single (Model.Send clock)) s s' d = leant d.1.0
follows (Single (Model.ExpirePending clock)) s s' d = leant d.1.0
follows (Single (Model.ExpirePendingTail clock)) s s' d = leant d.1.0
follows (Single (Model.Abandon tsn)) s s' d = leant d.1
follows (Single (Model.Acknowledge tsn)) s s' d = gone d.1
follows (Single (Model.Pop tsn)) s s' d = gone d.1
follows (ReadSack chunk) s s' d = gone d.1.0
follows (Single Model.MarkAll) s s' d = gone d.1
follows (Single (Model.Ask (Model.ExpiredInflight clock room))) s s' d = (λ _. d.4.1.0, d.4.1.1)
follows (Single (Model.Ask (Model.Get tsn))) s s' d = stayed state_of Sums d.1
follows (Single (Model.Ask (Model.IsAbandoned tsn))) s s' d = stayed state_of Sums d.1
follows (Single (Model.Ask Model.PeekPending)) s s' d = stayed state_of Sums d.1
follows (Single (Model.Ask Model.NextMessage)) s s' d = stayed state_of Sums d.1
follows (Single (Model.Ask Model.NextTsn)) s s' d = stayed state_of Sums d.1
follows (Single (Model.Ask Model.PendingLength)) s s' d = stayed state_of Sums d.1
follows (Single (Model.Ask Model.PendingBytes)) s s' d = stayed state_of Sums d.1
follows (Single (Model.Ask Model.InflightLength)) s s' d = stayed state_of Sums d.1
follows (Single (Model.Ask Model.InflightBytes)) s s' d = stayed state_of Sums d.1
follows (Single (Model.Ask Model.EarliestOutstanding)) s s' d = stayed state_of Sums d.1
follows (Single (Model.Ask (Model.PendingContainsStream identifier))) s s' d = stayed state_of Sums d.1
follows (Single (Model.Ask (Model.ContainsStream identifier))) s s' d = stayed state_of Sums d.1
follows (Single (Model.Ask (Model.BufferedAmount identifier))) s s' d = stayed state_of Sums d.1
follows (Single (Model.Ask (Model.LowThreshold identifier))) s s' d = stayed state_of Sums d.1
follows (Single (Model.Ask (Model.HighThreshold identifier))) s s' d = stayed state_of Sums d.1
follows (Single (Model.Ask (Model.Statistics identifier))) s s' d = stayed state_of Sums d.1
