-- Answers allowed for one input are shown to coincide: what a promise leaves for one input is one answer, and one sender after it.
use Rattle.std.specs.Prelude.{◌≡◌, List, ℕ}
use Rattle.limits.specs.Limits.{Room}
use Rattle.model.specs.State.{Sender}
use Rattle.outbound_queue.specs.Outbound.{Does}
use Rattle.outbound_abandon.specs.LeanListing.{DoesKept}
use Rattle.sender_head.specs.declared.Head.{Head}
use Rattle.calls.specs.declared.Call.{Call}
use Rattle.calls.specs.declared.Answer.{Answer}
use Rattle.calls.specs.Meant.{Allows}

-- two outcomes that a promise allows in one state are the same, whatever the state
abbrev pub OneOutcome : Type 1
OneOutcome = (A : Type 0) (room : Room) (s : Sender) (x y lean said : A) → Does room s x lean said → Does room s y lean said → x ≡ y

-- and so are two that the expired list's promise allows; each has the lent list in it
abbrev pub OneList : Type 1
OneList = (A kept : Type 0) (room : Room) (s : Sender) (x y lean said : A) → DoesKept kept room s x lean said → DoesKept kept room s y lean said → x ≡ y

-- so any call on any head and cells has one answer and leaves one sender
abbrev pub OutcomesCoincide : Type 0
OutcomesCoincide = (h : Head) (ws : List ℕ) (k : Call) (a b : Answer) (u v : Sender) → Allows k h ws a u → Allows k h ws b v → (a ≡ b) × (u ≡ v)
