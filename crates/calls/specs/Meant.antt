-- Which of the model's calls a value is, and which of its answers; and what the code does of any state at all.
use Rattle.std.specs.Prelude.{◌≡◌, Bool, true, false, List, ℕ}
use Rattle.limits.specs.Limits.{Room}
use Rattle.model.specs.State.{Sender, Out, same}
use Rattle.model.specs.Calls as Model
use Rattle.model.specs.Calls.{step, told}
use Rattle.outbound_send.specs.Lean.{lean_start, lean_send}
use Rattle.outbound_abandon.specs.Lean.{lean_abandon}
use Rattle.outbound_abandon.specs.LeanExpiry.{lean_expire, lean_expire_tail}
use Rattle.outbound_queue.specs.Outbound.{Good}
use Rattle.sender_head.specs.declared.Head.{Head}
use Rattle.sender_head.specs.Whole.{room_in, sender_of, Counted}
use Rattle.calls.specs.declared.Query.{Query}
use Rattle.calls.specs.declared.Call.{Call}
use Rattle.calls.specs.declared.Answer.{Answer}

-- ---- calls

abbrev pub asked : Query → Model.Query
asked (Query.Get t) = Model.Get t
asked (Query.IsAbandoned t) = Model.IsAbandoned t
asked Query.PeekPending = Model.PeekPending
asked Query.NextMessage = Model.NextMessage
asked Query.NextTsn = Model.NextTsn
asked Query.PendingLength = Model.PendingLength
asked Query.PendingBytes = Model.PendingBytes
asked Query.InflightLength = Model.InflightLength
asked Query.InflightBytes = Model.InflightBytes
asked Query.EarliestOutstanding = Model.EarliestOutstanding
asked (Query.PendingContainsStream id) = Model.PendingContainsStream id
asked (Query.ContainsStream id) = Model.ContainsStream id
asked (Query.BufferedAmount id) = Model.BufferedAmount id
asked (Query.LowThreshold id) = Model.LowThreshold id
asked (Query.HighThreshold id) = Model.HighThreshold id
asked (Query.Statistics id) = Model.Statistics id

abbrev pub meant : Call → Model.Call
meant (Call.Open id m) = Model.Open id m
meant (Call.SetReliability id u k v) = Model.SetReliability id u k v
meant (Call.SetLow id x) = Model.SetLow id x
meant (Call.SetHigh id x) = Model.SetHigh id x
meant (Call.Write id p o l) = Model.Write id p o l
meant (Call.Release id r) = Model.Release id r
meant (Call.StartLifetimes now) = Model.StartLifetimes now
meant (Call.Send now) = Model.Send now
meant (Call.ExpirePending now) = Model.ExpirePending now
meant (Call.ExpirePendingTail now) = Model.ExpirePendingTail now
meant (Call.Abandon t) = Model.Abandon t
meant (Call.Acknowledge t) = Model.Acknowledge t
meant (Call.Pop t) = Model.Pop t
meant Call.MarkAll = Model.MarkAll
meant (Call.Ask q) = Model.Ask (asked q)

-- ---- answers

abbrev pub said : Answer → Model.Answer
said (Answer.ToDo a) = Model.to_do a
said (Answer.ToWrite a) = Model.to_write a
said (Answer.ToRelease a) = Model.to_release a
said (Answer.ToSend a) = Model.to_send a
said (Answer.ToExpire a) = Model.to_expire a
said (Answer.ToExpireTail a) = Model.to_expire_tail a
said (Answer.ToAbandon a) = Model.to_abandon a
said (Answer.ToFind a) = Model.to_find a
said (Answer.ToSeek a) = Model.to_seek a
said (Answer.ToMeasure a) = Model.to_measure a
said (Answer.ToCount a) = Model.to_count a
said (Answer.Number x) = Model.number x
said (Answer.YesNo b) = Model.yes_no b

-- ---- of any state at all

-- what the code answers: the two questions for bytes hear the head's counters
abbrev pub kept : Query → Head → Sender → Model.Answer
kept (Query.Get t) h s = Model.answer (Model.Get t) s
kept (Query.IsAbandoned t) h s = Model.answer (Model.IsAbandoned t) s
kept Query.PeekPending h s = Model.answer Model.PeekPending s
kept Query.NextMessage h s = Model.answer Model.NextMessage s
kept Query.NextTsn h s = Model.answer Model.NextTsn s
kept Query.PendingLength h s = Model.answer Model.PendingLength s
kept Query.PendingBytes h s = Model.number h.queue.pending.bytes
kept Query.InflightLength h s = Model.answer Model.InflightLength s
kept Query.InflightBytes h s = Model.number h.queue.inflight.bytes
kept Query.EarliestOutstanding h s = Model.answer Model.EarliestOutstanding s
kept (Query.PendingContainsStream id) h s = Model.answer (Model.PendingContainsStream id) s
kept (Query.ContainsStream id) h s = Model.answer (Model.ContainsStream id) s
kept (Query.BufferedAmount id) h s = Model.answer (Model.BufferedAmount id) s
kept (Query.LowThreshold id) h s = Model.answer (Model.LowThreshold id) s
kept (Query.HighThreshold id) h s = Model.answer (Model.HighThreshold id) s
kept (Query.Statistics id) h s = Model.answer (Model.Statistics id) s

-- what the code does: in five calls less than the model
abbrev pub lean : Room → Call → Head → Sender → Out Model.Answer
lean room (Call.Open id m) h s = step room (Model.Open id m) s
lean room (Call.SetReliability id u k v) h s = step room (Model.SetReliability id u k v) s
lean room (Call.SetLow id x) h s = step room (Model.SetLow id x) s
lean room (Call.SetHigh id x) h s = step room (Model.SetHigh id x) s
lean room (Call.Write id p o l) h s = step room (Model.Write id p o l) s
lean room (Call.Release id r) h s = step room (Model.Release id r) s
lean room (Call.StartLifetimes now) h s = told Model.to_do (lean_start now s)
lean room (Call.Send now) h s = told Model.to_send (lean_send room now s)
lean room (Call.ExpirePending now) h s = told Model.to_expire (lean_expire now s)
lean room (Call.ExpirePendingTail now) h s = told Model.to_expire_tail (lean_expire_tail room now s)
lean room (Call.Abandon t) h s = told Model.to_abandon (lean_abandon room t s)
lean room (Call.Acknowledge t) h s = step room (Model.Acknowledge t) s
lean room (Call.Pop t) h s = step room (Model.Pop t) s
lean room Call.MarkAll h s = step room Model.MarkAll s
lean room (Call.Ask q) h s = same (kept q h s) s

-- the two questions for bytes, whose answers are the model's where the head's counters are sums
abbrev pub asks_sum : Query → Bool
asks_sum (Query.Get t) = false
asks_sum (Query.IsAbandoned t) = false
asks_sum Query.PeekPending = false
asks_sum Query.NextMessage = false
asks_sum Query.NextTsn = false
asks_sum Query.PendingLength = false
asks_sum Query.PendingBytes = true
asks_sum Query.InflightLength = false
asks_sum Query.InflightBytes = true
asks_sum Query.EarliestOutstanding = false
asks_sum (Query.PendingContainsStream id) = false
asks_sum (Query.ContainsStream id) = false
asks_sum (Query.BufferedAmount id) = false
asks_sum (Query.LowThreshold id) = false
asks_sum (Query.HighThreshold id) = false
asks_sum (Query.Statistics id) = false

abbrev pub sums : Call → Bool
sums (Call.Open id m) = false
sums (Call.SetReliability id u k v) = false
sums (Call.SetLow id x) = false
sums (Call.SetHigh id x) = false
sums (Call.Write id p o l) = false
sums (Call.Release id r) = false
sums (Call.StartLifetimes now) = false
sums (Call.Send now) = false
sums (Call.ExpirePending now) = false
sums (Call.ExpirePendingTail now) = false
sums (Call.Abandon t) = false
sums (Call.Acknowledge t) = false
sums (Call.Pop t) = false
sums Call.MarkAll = false
sums (Call.Ask q) = asks_sum q

-- ---- what a call promises

-- such an answer and such a sender: of every head and every cells what the code does there, and the model's call in every `Good` state, of the
-- two questions for bytes where the counters are sums
abbrev pub Allows : Call → Head → List ℕ → Answer → Sender → Type 0
Allows call h ws a after =
    (record { after = after; says = said a } ≡ lean (room_in ws) call h (sender_of h ws))
    × ((sums call ≡ true → Counted h ws) → Good (room_in ws) (sender_of h ws) → record { after = after; says = said a } ≡ step (room_in ws) (meant call) (sender_of h ws))

-- a call answers, and leaves the head and the cells thus; the counters of bytes stay sums
abbrev pub Steps : Call → Head → List ℕ → Head → List ℕ → Answer → Type 0
Steps call h ws h' ws' a = Allows call h ws a (sender_of h' ws') × (Counted h ws → Counted h' ws')
