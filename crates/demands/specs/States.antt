-- What holds of every state that calls reach: 01's conditions that cannot fail, on which the code leans.
use Rattle.std.specs.Prelude.{ℕ, ◌≤◌, ◌<◌, ◌≡◌, ◌≢◌, ◌⊎◌, Bool, true, false, not, List, [], ◌∷◌, ◌++◌, length, Some, None}
use Rattle.std.proofs.Math.Option.{Option, none, some}
use Rattle.limits.specs.Limits.{Room}
use Rattle.model.specs.declared.Chunk.{Chunk}
use Rattle.model.specs.declared.Message.{Message}
use Rattle.model.specs.declared.Stream.{Stream}
use Rattle.model.specs.State.{Lane, Sender, Numbers, fresh, at, lane_of, is_of}
use Rattle.model.specs.Lists.{when◌then◌else◌, keep}
use Rattle.model.specs.Streams.{find}
use Rattle.model.specs.Messages.{is_dcep}
use Rattle.model.specs.Rings.{head, has_lifetime}
use Rattle.model.specs.Calls.{Call, PendingContainsStream, ContainsStream, yes_no, answer, run}
use Rattle.demands.specs.Words.{Each, Waits, number_under_way}
use Rattle.limits.specs.Moments.{Moment}

-- ---- one chunk

abbrev pub present : Moment → Bool
present None = false
present (Some d) = true

-- a message not yet seen has no deadline; one that was seen has one exactly if it is Timed and not type 50
abbrev pub Lifetime : (unstarted : ℕ) → Message → Type 0
Lifetime k x = (k ≤ x.number → present x.deadline ≡ false) × (x.number < k → present x.deadline ≡ has_lifetime x)

-- no type 50 message has a deadline
abbrev pub NoDcepDeadline : Message → Type 0
NoDcepDeadline x = is_dcep x.protocol ≡ true → x.deadline ≡ None

abbrev pub IsOpen : List Stream → Message → Type 0
IsOpen l x = (t : Stream) × (find x.stream l ≡ some t)

-- a pending chunk is untouched and not empty, and is of its ring
pub record PendingChunk (l : List Stream) (n : Numbers) (lane : Lane) (c : Chunk) : Type 0 where
  pub of_stream : IsOpen l c.message
  pub numbered : c.message.number < n.next
  pub lifetime : Lifetime n.unstarted c.message
  pub dcep : NoDcepDeadline c.message
  pub ring : lane_of c.message.unordered ≡ lane
  pub full : 1 ≤ c.length
  pub unsent : c.since ≡ None
  pub nsent : c.nsent ≡ 0
  pub acked : c.acked ≡ false
  pub abandoned : c.abandoned ≡ false
  pub retransmit : c.retransmit ≡ false

-- an entry in flight was seen; acknowledged or abandoned, it holds no bytes and is not to retransmit
pub record FlightEntry (l : List Stream) (n : Numbers) (c : Chunk) : Type 0 where
  pub of_stream : IsOpen l c.message
  pub numbered : c.message.number < n.next
  pub seen : c.message.number < n.unstarted
  pub lifetime : Lifetime n.unstarted c.message
  pub dcep : NoDcepDeadline c.message
  pub acked_empty : c.acked ≡ true → (c.length ≡ 0) × (c.retransmit ≡ false)
  pub abandoned_empty : c.abandoned ≡ true → (c.length ≡ 0) × (c.retransmit ≡ false)

-- ---- lists of chunks

-- behind an ending entry stands nothing more of its message; behind another one its message's next entry, or it is the newest and its
-- message is under way
abbrev pub Behind : (under_way : Option ℕ) → Chunk → List Chunk → Type 0
Behind w c [] = (c.ending ≡ true) ⊎ (w ≡ some c.message.number)
Behind w c (d ∷ f) = when c.ending then keep (is_of c.message.number) (d ∷ f) ≡ [] else (d.message ≡ c.message) × (d.beginning ≡ false)

-- so a message's entries, the terminator included, are contiguous, and every message that is not under way ends
abbrev pub Contiguous : (under_way : Option ℕ) → List Chunk → Type 0
Contiguous w [] = Unit {0}
Contiguous w (c ∷ f) = Behind w c f × Contiguous w f

-- in the order of the message numbers
abbrev pub Ascending : (from : ℕ) → List Chunk → Type 0
Ascending n [] = Unit {0}
Ascending n (c ∷ l) = (n ≤ c.message.number) × Ascending c.message.number l

-- the list behind its leading run of a message's chunks
abbrev pub drop_run : (number : ℕ) → List Chunk → List Chunk
drop_run n [] = []
drop_run n (c ∷ l) = when is_of n c then drop_run n l else (c ∷ l)

-- a chunk of a message is in the list
abbrev pub Has : (number : ℕ) → List Chunk → Type 0
Has n l = keep (is_of n) l ≢ []

-- a chunk of the stream has room for a byte
abbrev pub Sized : Stream → Type 0
Sized t = 1 ≤ t.maximum

-- no identifier stands twice
abbrev pub Distinct : List Stream → Type 0
Distinct [] = Unit {0}
Distinct (t ∷ l) = (find t.identifier l ≡ none) × Distinct l

-- ---- a state

pub record Kept (room : Room) (s : Sender) : Type 0 where
  -- flight, rings and streams never exceed their room
  pub ring_room : (l : Lane) → length (at l s.pending) ≤ room.ring
  pub flight_room : length s.flight.entries ≤ room.flight
  pub stream_room : length s.streams ≤ room.streams
  -- each chunk
  pub pending : (l : Lane) → Each (PendingChunk s.streams s.numbers l) (at l s.pending)
  pub flying : Each (FlightEntry s.streams s.numbers) s.flight.entries
  -- at most one message is partly sent: any other pending one still has its first fragment
  pub whole : (l : Lane) (n : ℕ) → Has n (at l s.pending) → number_under_way s.pending ≢ some n → Waits n (at l s.pending)
  -- a message that is in flight and pending is the one under way
  pub partly : (l : Lane) (n : ℕ) → Has n (at l s.pending) → Has n s.flight.entries → number_under_way s.pending ≡ some n
  -- a head that is no first fragment is of the message under way, and while one is under way a place in flight is left for its terminator
  pub head_rest : (c : Chunk) → head s.pending ≡ some c → c.beginning ≡ false → number_under_way s.pending ≡ some c.message.number
  pub terminator_room : (n : ℕ) → number_under_way s.pending ≡ some n → length s.flight.entries < room.flight
  pub contiguous : Contiguous (number_under_way s.pending) s.flight.entries
  -- no entry of the message under way ends it, so its entries are the newest
  pub unended : (n : ℕ) → number_under_way s.pending ≡ some n → Each (λ c. is_of n c ≡ true → c.ending ≡ false) s.flight.entries
  -- the chunks of a message, pending or in flight, share U, type, reliability, SSN and deadline
  pub shared : (n : ℕ) → (x : Message) × Each (λ c. c.message ≡ x) (keep (is_of n) (s.pending.ordered ++ s.pending.unordered ++ s.flight.entries))
  -- rings are in the order of the message numbers
  pub ordered : (l : Lane) → Ascending 0 (at l s.pending)
  -- to remove a message that is in flight or at the head is to remove a leading run of each ring, of which one is empty
  pub head_run : (c : Chunk) → head s.pending ≡ some c → (l : Lane) → keep (λ d. not (is_of c.message.number d)) (at l s.pending) ≡ drop_run c.message.number (at l s.pending)
  pub flight_run : (n : ℕ) → Has n s.flight.entries → (l : Lane) → keep (λ d. not (is_of n d)) (at l s.pending) ≡ drop_run n (at l s.pending)
  -- a whole ordered message is at the head only with the unordered ring empty
  pub ordered_head : (c : Chunk) → head s.pending ≡ some c → c.beginning ≡ true → c.message.unordered ≡ false → s.pending.unordered ≡ []
  -- with both rings empty every message was seen
  pub seen : s.pending.unordered ≡ [] → s.pending.ordered ≡ [] → s.numbers.unstarted ≡ s.numbers.next
  pub unstarted : s.numbers.unstarted ≤ s.numbers.next
  pub distinct : Distinct s.streams
  -- every open stream's maximum is at least 1
  pub maxima : Each Sized s.streams
  -- the two questions whether a stream has chunks answer no for a stream that is not open
  pub unopened : (id : ℕ) → find id s.streams ≡ none
      → (answer (PendingContainsStream id) s ≡ yes_no false) × (answer (ContainsStream id) s ≡ yes_no false)

abbrev pub EveryState : Type 0
EveryState = (room : Room) (firstTsn firstMessage : ℕ) (ks : List Call) → Kept room (run room ks (fresh firstTsn firstMessage))
