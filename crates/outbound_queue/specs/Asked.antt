-- What is asked of the queue, as code finds it out.
use Rattle.std.specs.Prelude.{◌≡◌, Bool, false, ◌||◌, List, ◌++◌, ℕ, eqb, Some, None}
use Rattle.std.proofs.Common.{sym, ap}
use Rattle.std.proofs.Math.Option.{Option}
use Rattle.model.specs.declared.Chunk.{Chunk}
use Rattle.model.specs.Flight.{found, is_abandoned, has_stream}
use Rattle.rows.specs.Walks.{some_in}
use Rattle.ring.specs.Held.{found_none, found_some}

-- ---- whether the entry that was found is abandoned

pub unknown_is : (h : Option Chunk) → found h ≡ None → false ≡ is_abandoned h
unknown_is h e = sym (ap is_abandoned (found_none h e))

pub known_is : (h : Option Chunk) (c : Chunk) → found h ≡ Some c → c.abandoned ≡ is_abandoned h
known_is h c e = sym (ap is_abandoned (found_some h c e))

-- ---- whether a stream has chunks

-- `r` says whether among those pending
pub stream_in_lem : (id : ℕ) (u o f : List Chunk) {r : Bool} → r ≡ has_stream id (u ++ o) → (r || has_stream id f) ≡ has_stream id (u ++ o ++ f)
stream_in_lem id u o f e = some_in (λ (c : Chunk). eqb c.message.stream id) (u ++ o) f e
