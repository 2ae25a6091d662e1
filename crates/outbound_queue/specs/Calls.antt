-- What a contract of the queue promises, in one word: what becomes of the model's sender, whatever its streams are, of every queue `q` and every
-- cells `ws`; `q'` and `ws'` are those behind the call. And the counters of bytes stay sums, and the bound one.
use Rattle.std.specs.Prelude.{◌≡◌, Bool, List, ◌++◌, map, ℕ, ◌+◌, length}
use Rattle.limits.specs.Limits.{Room}
use Rattle.limits.specs.Told.{Told}
use Rattle.model.specs.declared.Chunk.{Chunk}
use Rattle.model.specs.State.{Ordered, Sender, Pending, Flight, Out, with_pending, with_ring}
use Rattle.model.specs.declared.Message.{Message}
use Rattle.model.specs.declared.Stream.{Stream}
use Rattle.model.specs.Lists.{last}
use Rattle.model.specs.Rings.{head, lowered, bytes}
use Rattle.model.specs.Flight.{found}
use Rattle.rows.specs.Spared.{Spares}
use Rattle.payload_queue.specs.Queue.{changed, filed}
use Rattle.payload_queue.specs.OneRun.{held_near, given_up_near}
use Rattle.payload_queue.specs.Model.{with_flight}
use Rattle.pending_queue.specs.Fragments.{fits_in, with_fragments}
use Rattle.pending_queue.specs.Fronts.{popped}
use Rattle.pending_queue.specs.Runs.{runs, without_runs}
use Rattle.outbound_queue.specs.declared.OutboundQueue.{OutboundQueue}
use Rattle.outbound_queue.specs.Outbound.{rings_in, ring_room, waiting, flying, sender_of, Counted, Does}
use Rattle.model.specs.Answers.{Found}

-- what is pending
abbrev pub waiting_in : OutboundQueue → List ℕ → Pending
waiting_in q ws = waiting q (rings_in ws)

-- what is in flight
abbrev pub flying_in : OutboundQueue → List ℕ → Flight
flying_in q ws = flying q (rings_in ws)

-- every chunk that is pending
abbrev pub chunks_of : Pending → List Chunk
chunks_of p = p.unordered ++ p.ordered

-- and those in flight behind them
abbrev pub all_chunks : Pending → Flight → List Chunk
all_chunks p f = p.unordered ++ p.ordered ++ f.entries

-- how many chunks are pending
abbrev pub count_of : Pending → ℕ
count_of p = length p.unordered + length p.ordered

-- ---- a call

-- the sender and the answer are those of the model's call
abbrev pub Goes : {A : Type 0} → (Sender → Out A) → OutboundQueue → List ℕ → OutboundQueue → List ℕ → A → Type 0
Goes call q ws q' ws' answer =
    ((ts : List Stream) → record { after = sender_of ts q' ws'; says = answer } ≡ call (sender_of ts q ws)) × (Counted q ws → Counted q' ws')

-- the sender is changed, and nothing is answered
abbrev pub Becomes : (Sender → Sender) → OutboundQueue → List ℕ → OutboundQueue → List ℕ → Type 0
Becomes change q ws q' ws' = ((ts : List Stream) → sender_of ts q' ws' ≡ change (sender_of ts q ws)) × (Counted q ws → Counted q' ws')

-- of any state what the code does, and of those that calls reach the model's call
abbrev pub Leans : {A : Type 0} → (lean call : Sender → Out A) → OutboundQueue → List ℕ → OutboundQueue → List ℕ → A → Type 0
Leans lean call q ws q' ws' answer =
    ((room : Room) (ts : List Stream) → Does room (sender_of ts q ws) (record { after = sender_of ts q' ws'; says = answer }) (lean (sender_of ts q ws)) (call (sender_of ts q ws)))
    × (Counted q ws → Counted q' ws')

-- the same of a call that asks how many entries the flight has room for: as many as the cells
abbrev pub LeansIn : {A : Type 0} → (lean call : Room → Sender → Out A) → OutboundQueue → List ℕ → OutboundQueue → List ℕ → A → Type 0
LeansIn lean call q ws q' ws' answer =
    ((room : Room) (ts : List Stream) → room.flight ≡ ring_room ws → Does room (sender_of ts q ws) (record { after = sender_of ts q' ws'; says = answer }) (lean room (sender_of ts q ws)) (call room (sender_of ts q ws)))
    × (Counted q ws → Counted q' ws')

-- ---- a call that can be refused: `told` says what its answer tells. Beside the promise above, a refusal leaves the queue and every word

abbrev pub GoesOrStays : {A : Type 0} → (told : A → Told) → (Sender → Out A) → OutboundQueue → List ℕ → OutboundQueue → List ℕ → A → Type 0
GoesOrStays told call q ws q' ws' answer = Goes call q ws q' ws' answer × Spares (told answer).number q ws q' ws'

abbrev pub LeansOrStays : {A : Type 0} → (told : A → Told) → (lean call : Sender → Out A) → OutboundQueue → List ℕ → OutboundQueue → List ℕ → A → Type 0
LeansOrStays told lean call q ws q' ws' answer = Leans lean call q ws q' ws' answer × Spares (told answer).number q ws q' ws'

abbrev pub LeansInOrStays : {A : Type 0} → (told : A → Told) → (lean call : Room → Sender → Out A) → OutboundQueue → List ℕ → OutboundQueue → List ℕ → A → Type 0
LeansInOrStays told lean call q ws q' ws' answer = LeansIn lean call q ws q' ws' answer × Spares (told answer).number q ws q' ws'

-- ---- a step of a call

-- the chunk that is sent next is taken, and answered
abbrev pub Takes : OutboundQueue → List ℕ → OutboundQueue → Found → Type 0
Takes q ws q' front = Becomes (λ s. with_pending (popped s.pending) s) q ws q' ws × (front ≡ found (head (waiting_in q ws)))

-- the leading run of a message leaves each ring: the bytes that it held, and its last chunk
abbrev pub Removes : (number : ℕ) → OutboundQueue → List ℕ → OutboundQueue → (held : ℕ) → Found → Type 0
Removes n q ws q' held front =
    Becomes (λ s. with_pending (without_runs n s.pending) s) q ws q' ws × (held ≡ bytes (runs n (waiting_in q ws))) × (front ≡ found (last (runs n (waiting_in q ws))))

-- the SSNs of a stream drop by 1 in the ordered ring
abbrev pub gap_closed : (stream : ℕ) → Sender → Sender
gap_closed id s = with_pending (with_ring Ordered s.pending.under_way (map (lowered id) s.pending.ordered) s.pending) s

-- the fragments of a message join their ring, all or none: whether there was room
abbrev pub Joins : Message → (maximum offset length : ℕ) → OutboundQueue → List ℕ → OutboundQueue → List ℕ → Bool → Type 0
Joins x m o l q ws q' ws' done =
    Becomes (λ s. with_pending (with_fragments (ring_room ws) x m o l s.pending) s) q ws q' ws' × (done ≡ fits_in (ring_room ws) x m o l (waiting_in q ws))

-- a chunk goes behind the entries of the flight, where there is room
abbrev pub Files : Chunk → OutboundQueue → List ℕ → OutboundQueue → List ℕ → Type 0
Files c q ws q' ws' = Becomes (λ s. with_flight (filed (ring_room ws) c s.flight) s) q ws q' ws'

-- the run of a message's entries around a place is given up: the bytes that it held
abbrev pub Frees : (number near : ℕ) → OutboundQueue → List ℕ → OutboundQueue → List ℕ → (held : ℕ) → Type 0
Frees n i q ws q' ws' held =
    Becomes (λ s. with_flight (changed (given_up_near n i) s.flight) s) q ws q' ws' × (held ≡ held_near n i (flying_in q ws).entries)
