-- What a sender as one value means; and its calls by 01's room, which is that of its cells.
use Rattle.std.specs.Prelude.{◌≡◌}
use Rattle.std.proofs.Common.{ap, subst}
use Rattle.limits.specs.Limits.{Room, room01}
use Rattle.limits.specs.Refusals.{done}
use Rattle.limits.specs.Told.{Told}
use Rattle.model.specs.State as State
use Rattle.rows.specs.Spared.{Stays}
use Rattle.outbound_queue.specs.Outbound.{Does}
use Rattle.outbound_abandon.specs.LeanListing.{DoesKept}
use Rattle.sender_head.specs.Whole.{sender_of, Counted}
use Rattle.sender_head.specs.Calls as Head
use Rattle.sender.specs.declared.Sender.{Sender}

-- the model's sender
abbrev pub state_of : Sender → State.Sender
state_of s = sender_of s.head s.cells

-- its counters of bytes are sums, and its bound of the deadlines in flight is one
abbrev pub Sums : Sender → Type 0
Sums s = Counted s.head s.cells

-- the sender and the answer are those of the model's call, and the counters of bytes stay sums; and what is told is told by the model's answer:
-- 01's number and values, by `told` of the call's answers
abbrev pub Goes : {A : Type 0} → (told : A → Told) → (State.Sender → State.Out A) → Sender → Sender → A → Type 0
Goes told call s s' answer =
    Head.Goes call s.head s.cells s'.head s'.cells answer × (told answer ≡ told (call (state_of s)).says)

-- of any state what the code does, and of those that calls reach the model's call, in 01's room; and what is told likewise
abbrev pub Leans : {A : Type 0} → (told : A → Told) → (lean call : State.Sender → State.Out A) → Sender → Sender → A → Type 0
Leans told lean call s s' answer =
    (Does room01 (state_of s) (record { after = state_of s'; says = answer }) (lean (state_of s)) (call (state_of s)) × (Sums s → Sums s'))
    × Does room01 (state_of s) (told answer) (told (lean (state_of s)).says) (told (call (state_of s)).says)

-- ---- a call that can be refused. Beside the promise above, a refusal gives back the sender that went in, word for word

abbrev pub GoesOrStays : {A : Type 0} → (told : A → Told) → (State.Sender → State.Out A) → Sender → Sender → A → Type 0
GoesOrStays told call s s' answer = Goes told call s s' answer × (((told answer).number ≡ done → ⊥) → s' ≡ s)

abbrev pub LeansOrStays : {A : Type 0} → (told : A → Told) → (lean call : State.Sender → State.Out A) → Sender → Sender → A → Type 0
LeansOrStays told lean call s s' answer = Leans told lean call s s' answer × (((told answer).number ≡ done → ⊥) → s' ≡ s)

-- the same head and the same cells are the same sender
pub stays : {s s' : Sender} → Stays s.head s.cells s'.head s'.cells → s' ≡ s
stays e = λ i. record { head = e.0 i; cells = e.1 i }

-- ---- an answer that is the model's tells what the model's tells

pub with_told : {A K : Type 0} (told : A → Told) {got said : State.Out A} → (got ≡ said) × K → ((got ≡ said) × K) × (told got.says ≡ told said.says)
with_told {A} told d = (d, ap (λ (o : State.Out A). told o.says) d.0)

pub with_told_lean : {A K : Type 0} (told : A → Told) {room : Room} {s : State.Sender} {got lean said : State.Out A}
    → Does room s got lean said × K → (Does room s got lean said × K) × Does room s (told got.says) (told lean.says) (told said.says)
with_told_lean {A} told d = (d, (ap (λ (o : State.Out A). told o.says) d.0.0, λ g. ap (λ (o : State.Out A). told o.says) (d.0.1 g)))

-- ---- the same of another name for the room

pub said_at : {A : Type 0} {got : A} {r t : Room} (said : Room → A) → r ≡ t → got ≡ said r → got ≡ said t
said_at {got = got} said e q = subst (λ (room : Room). got ≡ said room) e q

pub does_in : {A : Type 0} {got lean said : A} {s : State.Sender} {r t : Room} → r ≡ t → Does r s got lean said → Does t s got lean said
does_in {got = got} {lean} {said} {s} e d = subst (λ (room : Room). Does room s got lean said) e d

pub kept_in : {A kept : Type 0} {got lean said : A} {s : State.Sender} {r t : Room} → r ≡ t → DoesKept kept r s got lean said → DoesKept kept t s got lean said
kept_in {kept = kept} {got} {lean} {said} {s} e d = subst (λ (room : Room). DoesKept kept room s got lean said) e d

pub does_at : {A : Type 0} {got : A} {s : State.Sender} {r t : Room} (lean said : Room → A) → r ≡ t → Does r s got (lean r) (said r) → Does t s got (lean t) (said t)
does_at {got = got} {s} lean said e d = subst (λ (room : Room). Does room s got (lean room) (said room)) e d
