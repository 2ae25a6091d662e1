-- Document 01, "Flight": acknowledging, popping, marking, and what is asked of the flight and the rings.
use Rattle.std.specs.Prelude.{ℕ, ◌+◌, ◌%◌, Bool, true, false, not, ◌||◌, List, [], ◌∷◌, map, eqb, Some, None}
use Rattle.std.proofs.Math.Option.{Option, none, some}
use Rattle.limits.specs.Limits.{tsns}
use Rattle.model.specs.declared.Chunk.{Chunk}
use Rattle.model.specs.Lists.{when◌then◌else◌, some_of, adjust}
use Rattle.model.specs.State.{Sender, with_entries, place, in_flight, Out, same}
use Rattle.model.specs.Rings.{marked, tsns_of}
use Rattle.model.specs.Answers.{Found, Earliest}

-- ---- acknowledging marks the entry, clears retransmit, answers its held bytes and holds 0 from then on; an unknown TSN answers 0

abbrev pub acknowledged : Chunk → Chunk
acknowledged c = marked 0 true c.abandoned false c

abbrev pub acknowledging : Option Chunk → (tsn : ℕ) → Sender → Out ℕ
acknowledging none t s = same 0 s
acknowledging (some c) t s = record { after = with_entries (adjust acknowledged (place t s.flight) s.flight.entries) s; says = c.length }

unfoldable pub acknowledge : (tsn : ℕ) → Sender → Out ℕ
acknowledge t s = acknowledging (in_flight t s.flight) t s

-- ---- pop takes only the oldest

abbrev pub found : Option Chunk → Found
found none = None
found (some c) = Some c

abbrev pub popping : List Chunk → (tsn : ℕ) → Sender → Out Found
popping [] t s = same None s
popping (c ∷ f) t s =
    when eqb t s.flight.oldest then
    record {
      after = record { streams = s.streams; pending = s.pending; flight = record { oldest = (s.flight.oldest + 1) % tsns; entries = f }; numbers = s.numbers };
      says = Some c;
    }
    else same None s

unfoldable pub pop : (tsn : ℕ) → Sender → Out Found
pop t s = popping s.flight.entries t s

-- ---- marking all for retransmission skips acknowledged and abandoned entries

abbrev pub outstanding : Chunk → Bool
outstanding c = not (c.acked || c.abandoned)

abbrev pub to_retransmit : Chunk → Chunk
to_retransmit c = marked c.length c.acked c.abandoned (c.retransmit || outstanding c) c

unfoldable pub mark_all : Sender → Sender
mark_all s = with_entries (map to_retransmit s.flight.entries) s

-- ---- what is asked

-- whether a TSN is abandoned: no for an unknown one
abbrev pub is_abandoned : Option Chunk → Bool
is_abandoned none = false
is_abandoned (some c) = c.abandoned

-- whether a stream has chunks among these
abbrev pub has_stream : (stream : ℕ) → List Chunk → Bool
has_stream id l = some_of (λ c. eqb c.message.stream id) l

-- the earliest of some TSNs
abbrev pub earliest : List ℕ → Earliest
earliest [] = None
earliest (t ∷ l) = Some t

-- the oldest entry neither acknowledged nor abandoned
abbrev pub earliest_outstanding : Sender → Earliest
earliest_outstanding s = earliest (tsns_of outstanding s.flight.oldest s.flight.entries)
