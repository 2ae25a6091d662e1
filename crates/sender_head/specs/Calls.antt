-- What a contract of the sender promises, in one word: what becomes of the model's sender, of every head `h` and every cells `ws`; `h'` and `ws'`
-- are those behind the call. And the counters of bytes stay sums, and the bound one.
use Rattle.std.specs.Prelude.{◌≡◌, Bool, false, List, ℕ, length, ltb}
use Rattle.limits.specs.Told.{Told}
use Rattle.model.specs.declared.Stream.{Stream}
use Rattle.model.specs.State.{Sender, Out, with_streams}
use Rattle.rows.specs.Joins.{pushed}
use Rattle.rows.specs.Spared.{Stays, Spares}
use Rattle.outbound_queue.specs.Outbound.{Does}
use Rattle.sender_head.specs.declared.Head.{Head}
use Rattle.sender_head.specs.Whole.{room_in, sender_of, Counted}

-- the sender and the answer are those of the model's call
abbrev pub Goes : {A : Type 0} → (Sender → Out A) → Head → List ℕ → Head → List ℕ → A → Type 0
Goes call h ws h' ws' answer = (record { after = sender_of h' ws'; says = answer } ≡ call (sender_of h ws)) × (Counted h ws → Counted h' ws')

-- the sender is changed, and nothing is answered
abbrev pub Becomes : (Sender → Sender) → Head → List ℕ → Head → List ℕ → Type 0
Becomes change h ws h' ws' = (sender_of h' ws' ≡ change (sender_of h ws)) × (Counted h ws → Counted h' ws')

-- of any state what the code does, and of those that calls reach the model's call
abbrev pub Leans : {A : Type 0} → (lean call : Sender → Out A) → Head → List ℕ → Head → List ℕ → A → Type 0
Leans lean call h ws h' ws' answer =
    Does (room_in ws) (sender_of h ws) (record { after = sender_of h' ws'; says = answer }) (lean (sender_of h ws)) (call (sender_of h ws)) × (Counted h ws → Counted h' ws')

-- ---- a call that can be refused: `told` says what its answer tells. Beside the promise above, a refusal leaves the head and every word

abbrev pub GoesOrStays : {A : Type 0} → (told : A → Told) → (Sender → Out A) → Head → List ℕ → Head → List ℕ → A → Type 0
GoesOrStays told call h ws h' ws' answer = Goes call h ws h' ws' answer × Spares (told answer).number h ws h' ws'

abbrev pub LeansOrStays : {A : Type 0} → (told : A → Told) → (lean call : Sender → Out A) → Head → List ℕ → Head → List ℕ → A → Type 0
LeansOrStays told lean call h ws h' ws' answer = Leans lean call h ws h' ws' answer × Spares (told answer).number h ws h' ws'

-- ---- a step of a call

-- a stream joins the table, where there is room: whether there was; where not, the head and every word stay
abbrev pub Joins : Stream → Head → List ℕ → Head → List ℕ → Bool → Type 0
Joins t h ws h' ws' done =
    Becomes (λ s. with_streams (pushed (room_in ws).streams s.streams t) s) h ws h' ws' × (done ≡ ltb (length (sender_of h ws).streams) (room_in ws).streams)
    × (done ≡ false → Stays h ws h' ws')
