-- Which exported function is which of the model's requests. Written by tools/thin from tools/calls.table.
use Rattle.std.specs.Prelude.{◌≡◌, List, ℕ, length}
use Rattle.model.specs.Calls as Model
use Rattle.model.specs.Requests.{Request, Single, ReadSack}
use Rattle.flat.specs.declared.Reply.{Reply}
use Rattle.flat.specs.declared.Freed.{Freed}
use Rattle.flat.specs.declared.Fragment.{Fragment}
use Rattle.flat.specs.declared.Counts.{Counts}
use Rattle.flat.specs.declared.Sacked.{Sacked}
use Rattle.lent.specs.declared.Sender.{Sender}
use Rattle.lent.specs.Says as Says

-- what the function of each request promises of the sender behind its reference, before and after; a question leaves it
abbrev pub Called : Request → (s s' : Sender) → Type 0
Called (Single (Model.Open identifier maximum)) s s' = (y : Reply) × Says.OpenStream identifier maximum s s' y
Called (Single (Model.SetReliability identifier unordered kind value)) s s' = (y : Reply) × Says.SetReliabilityParams identifier unordered kind value s s' y
Called (Single (Model.SetLow identifier low)) s s' = (y : Reply) × Says.SetBufferedAmountLowThreshold identifier low s s' y
Called (Single (Model.SetHigh identifier high)) s s' = (y : Reply) × Says.SetBufferedAmountHighThreshold identifier high s s' y
Called (Single (Model.Release identifier released)) s s' = (y : Reply) × Says.OnBufferReleased identifier released s s' y
Called (Single (Model.Write identifier protocol offset length)) s s' = (y : Reply) × Says.Write identifier protocol offset length s s' y
Called (Single (Model.StartLifetimes clock)) s s' = (y : Reply) × Says.StartTimedMessages clock s s' y
Called (Single (Model.Send clock)) s s' = (y : Fragment) × Says.SendNext clock s s' y
Called (Single (Model.ExpirePending clock)) s s' = (y : Freed) × Says.ExpirePending clock s s' y
Called (Single (Model.ExpirePendingTail clock)) s s' = (y : Freed) × Says.ExpirePendingTail clock s s' y
Called (Single (Model.Abandon tsn)) s s' = (y : Freed) × Says.Abandon tsn s s' y
Called (Single (Model.Acknowledge tsn)) s s' = (y : Reply) × Says.MarkAsAcked tsn s s' y
Called (Single (Model.Pop tsn)) s s' = (y : Fragment) × Says.Pop tsn s s' y
Called (ReadSack chunk) s s' = (y : Sacked) × Says.HandleSack chunk s s' y
Called (Single Model.MarkAll) s s' = (y : Reply) × Says.MarkAllToRetransmit s s' y
Called (Single (Model.Ask (Model.ExpiredInflight clock room))) s s' = (list : List ℕ) × (list' : List ℕ) × (y : Reply) × (length list ≡ room) × Says.ExpiredInflight list clock s s' list' y
Called (Single (Model.Ask (Model.Get tsn))) s s' = (y : Fragment) × (s' ≡ s) × Says.Get tsn s y
Called (Single (Model.Ask (Model.IsAbandoned tsn))) s s' = (y : Reply) × (s' ≡ s) × Says.IsAbandoned tsn s y
Called (Single (Model.Ask Model.PeekPending)) s s' = (y : Fragment) × (s' ≡ s) × Says.PeekPending s y
Called (Single (Model.Ask Model.NextMessage)) s s' = (y : Reply) × (s' ≡ s) × Says.NextMessageId s y
Called (Single (Model.Ask Model.NextTsn)) s s' = (y : Reply) × (s' ≡ s) × Says.NextTsn s y
Called (Single (Model.Ask Model.PendingLength)) s s' = (y : Reply) × (s' ≡ s) × Says.PendingLen s y
Called (Single (Model.Ask Model.PendingBytes)) s s' = (y : Reply) × (s' ≡ s) × Says.PendingBytes s y
Called (Single (Model.Ask Model.InflightLength)) s s' = (y : Reply) × (s' ≡ s) × Says.InflightLen s y
Called (Single (Model.Ask Model.InflightBytes)) s s' = (y : Reply) × (s' ≡ s) × Says.InflightBytes s y
Called (Single (Model.Ask Model.EarliestOutstanding)) s s' = (y : Reply) × (s' ≡ s) × Says.EarliestOutstandingTsn s y
Called (Single (Model.Ask (Model.PendingContainsStream identifier))) s s' = (y : Reply) × (s' ≡ s) × Says.PendingContainsStream identifier s y
Called (Single (Model.Ask (Model.ContainsStream identifier))) s s' = (y : Reply) × (s' ≡ s) × Says.ContainsStream identifier s y
Called (Single (Model.Ask (Model.BufferedAmount identifier))) s s' = (y : Reply) × (s' ≡ s) × Says.BufferedAmount identifier s y
Called (Single (Model.Ask (Model.LowThreshold identifier))) s s' = (y : Reply) × (s' ≡ s) × Says.BufferedAmountLowThreshold identifier s y
Called (Single (Model.Ask (Model.HighThreshold identifier))) s s' = (y : Reply) × (s' ≡ s) × Says.BufferedAmountHighThreshold identifier s y
Called (Single (Model.Ask (Model.Statistics identifier))) s s' = (y : Counts) × (s' ≡ s) × Says.Stats identifier s y
