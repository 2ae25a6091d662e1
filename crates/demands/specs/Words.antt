-- The words of the claims: what is still to come of the message under way, what is ahead of a waiting one, what a call removes.
use Rattle.std.specs.Prelude.{ℕ, suc, ◌+◌, ◌<◌, ◌≡◌, refl, ◌≢◌, ◌⊎◌, Bool, true, false, ◌&&◌, List, [], ◌∷◌, ◌++◌, map, length, drop, ltb, None, Ok, Err}
use Rattle.std.proofs.Common.{arith}
use Rattle.std.proofs.Math.Option.{Option, none, some}
use Rattle.limits.specs.Limits.{Room, clock_max}
use Rattle.model.specs.declared.Chunk.{Chunk}
use Rattle.model.specs.declared.Stream.{Stream}
use Rattle.model.specs.State.{Unordered, Ordered, UnderWay, Idle, Sending, Sender, Pending, at, in_flight, is_of}
use Rattle.model.specs.Lists.{when◌then◌else◌, keep, last}
use Rattle.model.specs.Streams.{find}
use Rattle.model.specs.Messages.{piece, is_unordered, write}
use Rattle.model.specs.Rings.{renewed, head, pending_of, expires, tail_expires, terminators}
use Rattle.model.specs.Calls.{
  Call,
  Open,
  SetReliability,
  SetLow,
  SetHigh,
  Write,
  Release,
  StartLifetimes,
  Send,
  ExpirePending,
  ExpirePendingTail,
  Abandon,
  Acknowledge,
  Pop,
  MarkAll,
  Ask,
  step,
  run,
}
use Rattle.model.specs.Answers.{Written}

-- ---- fragments

-- a chunk without what starting lifetimes, sending and marking give it
abbrev pub bare : Chunk → Chunk
bare c = piece (renewed c.message.ssn None c.message) c.beginning c.ending c.offset c.length

-- a fragment as it was cut, but for its SSN, which an expiry may lower while it waits
abbrev pub as_cut : Chunk → Chunk
as_cut c = piece (renewed 0 None c.message) c.beginning c.ending c.offset c.length

-- the chunks of a message among these, as they were cut
abbrev pub cut_of : (number : ℕ) → List Chunk → List Chunk
cut_of n l = map as_cut (keep (is_of n) l)

-- c is the next fragment behind p: of the same message, not its first, and contiguous
pub record Follows (p c : Chunk) : Type 0 where
  pub not_first : c.beginning ≡ false
  pub same_message : c.message ≡ p.message
  pub contiguous : c.offset ≡ p.offset + p.length

-- what must come behind a chunk: nothing more of its message, or its next fragment
abbrev pub behind : Chunk → Option Chunk
behind c = when c.ending then none else some c

-- exactly the fragments still to come, up to the ending one
abbrev pub Remaining : Option Chunk → List Chunk → Type 0
Remaining none [] = Unit {0}
Remaining none (c ∷ l) = ⊥
Remaining (some p) [] = ⊥
Remaining (some p) (c ∷ l) = Follows p c × Remaining (behind c) l

-- one of two lists begins with the other
abbrev pub Agree {ℓ} : {A : Type ℓ} → List A → List A → Type ℓ
Agree [] ys = Unit
Agree (x ∷ xs) [] = Unit
Agree (x ∷ xs) (y ∷ ys) = (x ≡ y) × Agree xs ys

-- each of a list has a property
abbrev pub Each {ℓ} : {A : Type ℓ} → (A → Type 0) → List A → Type 0
Each P [] = Unit {0}
Each P (x ∷ l) = P x × Each P l

-- ---- the message under way

-- the chunks up to the first ending one, and that one
abbrev pub up_to_end : List Chunk → List Chunk
up_to_end [] = []
up_to_end (c ∷ l) = c ∷ (when c.ending then [] else up_to_end l)

-- what is still to be sent of it
abbrev pub rest_in : UnderWay → Pending → List Chunk
rest_in Idle p = []
rest_in (Sending l) p = up_to_end (at l p)

abbrev pub rest : Pending → List Chunk
rest p = rest_in p.under_way p

-- its number
abbrev pub number_of_head : UnderWay → (head : Option Chunk) → Option ℕ
number_of_head Idle h = none
number_of_head (Sending l) none = none
number_of_head (Sending l) (some c) = some c.message.number

abbrev pub number_under_way : Pending → Option ℕ
number_under_way p = number_of_head p.under_way (head p)

-- something is pending
abbrev pub SomePending : Sender → Type 0
SomePending s = 0 < length s.pending.unordered + length s.pending.ordered

-- ---- what a call removes

-- the message that a call abandons
abbrev pub abandons_entry : Option Chunk → Option ℕ
abandons_entry none = none
abandons_entry (some c) = when c.abandoned then none else some c.message.number

abbrev pub passing : (Chunk → Bool) → Option Chunk → Option ℕ
passing p none = none
passing p (some c) = when p c then some c.message.number else none

abbrev pub abandons : Call → Sender → Option ℕ
abandons (Open id m) s = none
abandons (SetReliability id u k v) s = none
abandons (SetLow id x) s = none
abandons (SetHigh id x) s = none
abandons (Write id p o l) s = none
abandons (Release id r) s = none
abandons (StartLifetimes now) s = none
abandons (Send now) s = none
abandons (ExpirePending now) s = none
abandons (ExpirePendingTail now) s = when ltb clock_max now then none else passing (tail_expires now) (head s.pending)
abandons (Abandon t) s = abandons_entry (in_flight t s.flight)
abandons (Acknowledge t) s = none
abandons (Pop t) s = none
abandons MarkAll s = none
abandons (Ask q) s = none

-- the wholly unsent message that a call expires
abbrev pub expires_message : Call → Sender → Option ℕ
expires_message (Open id m) s = none
expires_message (SetReliability id u k v) s = none
expires_message (SetLow id x) s = none
expires_message (SetHigh id x) s = none
expires_message (Write id p o l) s = none
expires_message (Release id r) s = none
expires_message (StartLifetimes now) s = none
expires_message (Send now) s = none
expires_message (ExpirePending now) s = when ltb clock_max now then none else passing (expires now) (head s.pending)
expires_message (ExpirePendingTail now) s = none
expires_message (Abandon t) s = none
expires_message (Acknowledge t) s = none
expires_message (Pop t) s = none
expires_message MarkAll s = none
expires_message (Ask q) s = none

-- ---- each call and the state that it meets

-- the sum of a number of each
abbrev pub summed : Room → (Call → Sender → ℕ) → List Call → Sender → ℕ
summed room f [] s = 0
summed room f (k ∷ ks) s = f k s + summed room f ks (step room k s).after

-- of no calls it is 0
pub summed_none : (room : Room) (f : Call → Sender → ℕ) (s : Sender) → summed room f [] s ≡ 0
summed_none room f s = refl

-- of calls and then others it is that of the first and, from the state behind them, that of the others
pub summed_joined : (room : Room) (f : Call → Sender → ℕ) (ks js : List Call) (s : Sender)
    → summed room f (ks ++ js) s ≡ summed room f ks s + summed room f js (run room ks s)
summed_joined room f [] js s = omega arith
summed_joined room f (k ∷ ks) js s = omega (arith, summed_joined room f ks js (step room k s).after)

-- a condition on each
abbrev pub Throughout : Room → (Call → Sender → Type 0) → List Call → Sender → Type 0
Throughout room P [] s = Unit
Throughout room P (k ∷ ks) s = P k s × Throughout room P ks (step room k s).after

abbrev pub Unabandoned : Room → (number : ℕ) → List Call → Sender → Type 0
Unabandoned room n = Throughout room (λ k s. abandons k s ≢ some n)

abbrev pub Unexpired : Room → (number : ℕ) → List Call → Sender → Type 0
Unexpired room n = Throughout room (λ k s. expires_message k s ≢ some n)

-- ---- waiting

abbrev pub is_start : (number : ℕ) → Chunk → Bool
is_start n c = is_of n c && c.beginning

-- the message's first fragment is in the list
abbrev pub Waits : (number : ℕ) → List Chunk → Type 0
Waits n [] = ⊥
Waits n (c ∷ l) = (is_start n c ≡ true) ⊎ Waits n l

-- how many chunks stand before the first fragment of a message: all, if it is not there
abbrev pub before : (number : ℕ) → List Chunk → ℕ
before n [] = 0
before n (c ∷ l) = when is_start n c then 0 else suc (before n l)

-- the rest of the message under way, where it is not in the unordered ring itself
abbrev pub ordered_rest : UnderWay → List Chunk → ℕ
ordered_rest Idle o = 0
ordered_rest (Sending Unordered) o = 0
ordered_rest (Sending Ordered) o = length (up_to_end o)

-- that, and the unordered chunks ahead
abbrev pub ahead_unordered : (number : ℕ) → Pending → ℕ
ahead_unordered n p = ordered_rest p.under_way p.ordered + before n p.unordered

-- all unordered chunks pending, and the ordered chunks ahead
abbrev pub ahead_ordered : (number : ℕ) → Pending → ℕ
ahead_ordered n p = length p.unordered + before n p.ordered

-- a write is accepted, and its message is unordered
abbrev pub was_accepted : Written → Bool
was_accepted (Ok h) = true
was_accepted (Err n) = false

abbrev pub unordered_for : Option Stream → (protocol : ℕ) → Bool
unordered_for none p = false
unordered_for (some t) p = is_unordered p t

abbrev pub accepts_unordered : Room → Call → Sender → Bool
accepts_unordered room (Open id m) s = false
accepts_unordered room (SetReliability id u k v) s = false
accepts_unordered room (SetLow id x) s = false
accepts_unordered room (SetHigh id x) s = false
accepts_unordered room (Write id p o l) s = was_accepted (write room id p o l s).says && unordered_for (find id s.streams) p
accepts_unordered room (Release id r) s = false
accepts_unordered room (StartLifetimes now) s = false
accepts_unordered room (Send now) s = false
accepts_unordered room (ExpirePending now) s = false
accepts_unordered room (ExpirePendingTail now) s = false
accepts_unordered room (Abandon t) s = false
accepts_unordered room (Acknowledge t) s = false
accepts_unordered room (Pop t) s = false
accepts_unordered room MarkAll s = false
accepts_unordered room (Ask q) s = false

abbrev pub NoneUnordered : Room → List Call → Sender → Type 0
NoneUnordered room = Throughout room (λ k s. accepts_unordered room k s ≡ false)

-- ---- TSNs

-- the entries that a call files: those of the flight after it behind as many as were there
abbrev pub files : Room → Call → Sender → List Chunk
files room k s = drop (length s.flight.entries) (step room k s).after.flight.entries

abbrev pub files_of : Room → List Call → Sender → List Chunk
files_of room [] s = []
files_of room (k ∷ ks) s = files room k s ++ files_of room ks (step room k s).after

-- what an abandonment files: one empty terminator if a fragment of the message was unsent, and nothing if none was
abbrev pub closing : Option ℕ → Pending → List Chunk
closing none p = []
closing (some n) p = terminators (last (pending_of n p))
