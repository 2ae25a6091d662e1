-- Demand 3, sentence by sentence, of a state that calls have reached.
use Rattle.std.specs.Prelude.{ℕ, suc, ◌+◌, ◌%◌, ◌≤◌, ◌<◌, ◌≡◌, ◌≢◌, List, [], ◌∷◌, ◌++◌, map, length, take, Some, Ok}
use Rattle.std.proofs.Math.Option.{some}
use Rattle.limits.specs.Limits.{Room, clock_max, tsns}
use Rattle.model.specs.declared.Chunk.{Chunk}
use Rattle.model.specs.Lists.{last}
use Rattle.model.specs.State.{Sender, fresh, next_tsn, in_flight}
use Rattle.model.specs.Rings.{head, started, sent_at, send, pending_of, terminator}
use Rattle.model.specs.Calls.{Call, step, run, yielded, yields_of}
use Rattle.demands.specs.Words.{bare, behind, Remaining, Agree, rest, SomePending, abandons, Unabandoned, Unexpired, Waits, ahead_unordered, ahead_ordered, NoneUnordered, files, files_of, closing}

-- the chunk that a send of s yields
abbrev pub sent_by : (now : ℕ) → Sender → Chunk → Chunk
sent_by now s d = sent_at now (started now s.numbers.unstarted d)

pub record Demand3 (room : Room) (s : Sender) : Type 0 where
  -- A send with its clock in range, something pending and room left in flight yields the head, with the next TSN modulo 2 ^ 32 ..
  pub yield : (now : ℕ) → now ≤ clock_max → SomePending s → suc (length s.flight.entries) < room.flight
      → (d : Chunk) × (head s.pending ≡ some d) × ((send room now s).says ≡ Ok (Some (next_tsn s, sent_by now s d)))
  -- .. and that TSN then finds that chunk in flight, while older entries keep their places.
  pub found : (now tsn : ℕ) (y : Chunk) → (send room now s).says ≡ Ok (Some (tsn, y))
      → ((send room now s).after.flight.entries ≡ s.flight.entries ++ (y ∷ [])) × (in_flight tsn (send room now s).after.flight ≡ some y)
  -- Behind the chunk that a send yields, what is left of its message is contiguous, up to the ending fragment ..
  pub left : (now tsn : ℕ) (y : Chunk) → (send room now s).says ≡ Ok (Some (tsn, y)) → Remaining (behind (bare y)) (map bare (rest (send room now s).after.pending))
  -- .. and that is what further calls yield next, in order, until it is complete or its message is abandoned.
  pub in_order : (now tsn : ℕ) (y : Chunk) → (send room now s).says ≡ Ok (Some (tsn, y)) → (js : List Call)
      → Unabandoned room y.message.number js (send room now s).after
      → Agree (map bare (yields_of room js (send room now s).after)) (map bare (rest (send room now s).after.pending))
  -- A call files, with the next TSNs, the chunk that it yields, or the terminator of the message that it abandons, and nothing else.
  pub filed : (k : Call) → files room k s ≡ yielded (step room k s).says ++ closing (abandons k s) s.pending
  pub next_tsns : (k : Call) → next_tsn (step room k s).after ≡ (next_tsn s + length (files room k s)) % tsns
  -- Abandoning a message with fragments unsent takes exactly one more TSN, for an empty terminator; another takes none.
  pub terminated : (k : Call) (n : ℕ) → abandons k s ≡ some n → pending_of n s.pending ≢ []
      → (c : Chunk) × (last (pending_of n s.pending) ≡ some c) × (files room k s ≡ terminator c ∷ [])
  pub unterminated : (k : Call) (n : ℕ) → abandons k s ≡ some n → pending_of n s.pending ≡ [] → files room k s ≡ []
  -- A waiting unordered message that expiry does not remove starts no later than the yield behind what is ahead of it.
  pub unordered_starts : (n : ℕ) → Waits n s.pending.unordered → (js : List Call) → Unexpired room n js s
      → ahead_unordered n s.pending < length (yields_of room js s) → Waits n (take (suc (ahead_unordered n s.pending)) (yields_of room js s))
  -- An ordered one too, while no further unordered message is accepted.
  pub ordered_starts : (n : ℕ) → Waits n s.pending.ordered → (js : List Call) → Unexpired room n js s → NoneUnordered room js s
      → ahead_ordered n s.pending < length (yields_of room js s) → Waits n (take (suc (ahead_ordered n s.pending)) (yields_of room js s))

-- From a fresh sender, under any calls. A flight of at most 2 ^ 32 entries, so that no TSN stands twice in it.
abbrev pub FromFresh : Type 0
FromFresh = (room : Room) → room.flight ≤ tsns → (firstTsn firstMessage : ℕ) → firstTsn < tsns → (ks : List Call) → Demand3 room (run room ks (fresh firstTsn firstMessage))

-- And the next TSN is the first one and as many more as were filed, modulo 2 ^ 32.
abbrev pub TsnsTaken : Type 0
TsnsTaken = (room : Room) (firstTsn firstMessage : ℕ) (ks : List Call)
    → next_tsn (run room ks (fresh firstTsn firstMessage)) ≡ (firstTsn + length (files_of room ks (fresh firstTsn firstMessage))) % tsns
