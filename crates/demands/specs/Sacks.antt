-- What the single calls of an accepted SACK leave, entry by entry, and the bytes that they free; and that another one changes nothing.
use Rattle.std.specs.Prelude.{ℕ, suc, ◌+◌, ◌-◌, ◌%◌, ◌≤◌, ◌<◌, ◌≡◌, ◌⊎◌, Bool, true, ◌&&◌, List, [], ◌∷◌, length, drop, leb, None, Ok, Err}
use Rattle.limits.specs.Limits.{Room, tsns}
use Rattle.model.specs.declared.Block.{Block}
use Rattle.model.specs.declared.Chunk.{Chunk}
use Rattle.model.specs.Lists.{when◌then◌else◌, some_of, total}
use Rattle.model.specs.State.{Sender, Flight}
use Rattle.model.specs.Rings.{bytes}
use Rattle.model.specs.Flight.{acknowledged}
use Rattle.model.specs.Calls.{run, answers}
use Rattle.model.specs.Sack.{all_within}
use Rattle.model.specs.Sacks.{covered, sack_calls, bytes_in, sack}
use Rattle.limits.specs.declared.Refusal.{Refusal}
use Rattle.limits.specs.declared.Refusal.TheVariants.{BadSack, BadBlock}

-- ---- the state that they leave

-- a block covers the TSN that is so far behind the cumulative one
abbrev pub inside : (offset : ℕ) → Block → Bool
inside i b = leb b.start i && leb i b.end

-- the entries from offset i on, of which those that a block covers are acknowledged
abbrev pub gapped : List Block → (i : ℕ) → List Chunk → List Chunk
gapped bs i [] = []
gapped bs i (c ∷ l) = (when some_of (inside i) bs then acknowledged c else c) ∷ gapped bs (suc i) l

-- k entries go, and of the others those that a block covers are acknowledged
abbrev pub sacked_flight : (k : ℕ) → List Block → Flight → Flight
sacked_flight k bs f = record { oldest = (f.oldest + k) % tsns; entries = gapped bs 1 (drop k f.entries) }

abbrev pub sacked_state : (k : ℕ) → List Block → Sender → Sender
sacked_state k bs s = record { streams = s.streams; pending = s.pending; flight = sacked_flight k bs s.flight; numbers = s.numbers }

-- ---- the claims

-- that state, and the bytes that the calls answer are those that the flight holds less: so bytes are released once, however blocks overlap
pub record Closed (room : Room) (cumulative : ℕ) (bs : List Block) (s : Sender) : Type 0 where
  pub after : run room (sack_calls cumulative bs s.flight) s ≡ sacked_state (covered cumulative s.flight) bs s
  pub freed : total bytes_in (answers room (sack_calls cumulative bs s.flight) s) + bytes (sacked_state (covered cumulative s.flight) bs s).flight.entries ≡ bytes s.flight.entries

-- a SACK that is neither stale nor refused, in a flight of fewer than 2 ^ 32 entries
abbrev pub Accepted : Type 0
Accepted = (room : Room) (cumulative : ℕ) (bs : List Block) (s : Sender) → s.flight.oldest < tsns → cumulative < tsns → length s.flight.entries < tsns
    → covered cumulative s.flight ≤ length s.flight.entries → all_within (length s.flight.entries - covered cumulative s.flight) bs ≡ true → Closed room cumulative bs s

-- a stale one changes nothing, and so does a refused one, whose number is 13 or 14
pub record SacksLeave : Type 0 where
  pub stale : (room : Room) (packet : List ℕ) (s : Sender) → (sack room packet s).says ≡ Ok None → (sack room packet s).after ≡ s
  pub refused : (room : Room) (packet : List ℕ) (s : Sender) (r : Refusal) → (sack room packet s).says ≡ Err r
      → ((sack room packet s).after ≡ s) × ((r ≡ BadSack) ⊎ (r ≡ BadBlock))
