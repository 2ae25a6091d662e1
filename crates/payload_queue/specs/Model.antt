-- The calls as document 01's: what they do to the flight and answer is what the model's do of a whole sender.
use Rattle.std.specs.Prelude.{◌≡◌, ℕ, zero, suc, ◌+◌, ◌%◌, ◌<◌, Bool, true, false, not, ◌&&◌, ◌||◌, List, [], ◌∷◌, ◌++◌, length, ◌==◌, slice_index_or, refl, Some, None}
use Rattle.std.proofs.Common.{sym, ap, ◌∙◌, arith}
use Rattle.std.proofs.Math.Option.{Option, none, some}
use Rattle.std.proofs.Math.ListN.{get_elem?}
use Rattle.limits.specs.Limits.{tsns}
use Rattle.limits.specs.Moments.{passed}
use Rattle.model.specs.declared.Chunk.{Chunk}
use Rattle.model.specs.Lists.{when◌then◌else◌, some_of, adjust}
use Rattle.model.specs.State.{Sender, Flight, Out, Pending as Waiting, with_entries, place, in_flight, is_of}
use Rattle.model.specs.Rings.{tsns_of, expired_entry}
use Rattle.model.specs.Flight.{acknowledged, acknowledging, popping}
use Rattle.chunk_slot.specs.Chunks.{blank_chunk}
use Rattle.payload_queue.specs.Queue.{acked, held_in, Pop, popped_of, is_awaited, overdue_entry, overdue_tsns}
use Rattle.model.specs.Answers.{Found}
use Rattle.payload_queue.specs.Queue.{Pending}

-- a sender with another flight
abbrev pub with_flight : Flight → Sender → Sender
with_flight f s = record { streams = s.streams; pending = s.pending; flight = f; numbers = s.numbers }

-- `popped` is the model's pop
pub popping_is : (l : List Chunk) (t : ℕ) (s : Sender)
    → popping l t s ≡ record { after = with_flight (popped_of l t s.flight).flight s; says = (popped_of l t s.flight).front }
popping_is [] t s = refl
popping_is (c ∷ l) t s = go (t == s.flight.oldest)
  where
    popped : Pop
    popped = record { flight = record { oldest = (s.flight.oldest + 1) % tsns; entries = l }; front = Some c }

    stays : Pop
    stays = record { flight = s.flight; front = None }

    told : Pop → Out Found
    told r = record { after = with_flight r.flight s; says = r.front }

    go : (b : Bool) → (when b then told popped else told stays) ≡ told (when b then popped else stays)
    go true = refl
    go false = refl

-- `acked` and `held_in` are the model's acknowledging: of an unknown TSN there is no entry to change
pub acknowledging_is : (t : ℕ) (s : Sender)
    → acknowledging (in_flight t s.flight) t s ≡ record { after = with_flight (acked t s.flight) s; says = held_in (in_flight t s.flight) }
acknowledging_is t s = go (in_flight t s.flight) refl
  where
    unknown : (i : ℕ) (l : List Chunk) → get_elem? l i ≡ none → adjust acknowledged i l ≡ l
    unknown zero [] e = refl
    unknown (suc i) [] e = refl
    unknown zero (c ∷ l) e = let z : some c ≡ none = e in cc
    unknown (suc i) (c ∷ l) e = ap (λ (m : List Chunk). c ∷ m) (unknown i l e)

    go : (o : Option Chunk) → in_flight t s.flight ≡ o → acknowledging o t s ≡ record { after = with_flight (acked t s.flight) s; says = held_in o }
    go none e = sym (ap (λ (m : List Chunk). record { after = with_entries m s; says = 0 }) (unknown (place t s.flight) s.flight.entries e))
    go (some c) e = refl

-- ---- expired lists what the model does, if the caller names the message that is pending

-- of the entries' messages, the one that is named is the one that is pending
abbrev pub Names : Pending → Waiting → List Chunk → Type 0
Names w p l =
    (i : ℕ) → i < length l
    → is_awaited w (slice_index_or l i blank_chunk).message.number ≡ some_of (is_of (slice_index_or l i blank_chunk).message.number) (p.unordered ++ p.ordered)

-- then the test is the model's of each entry
overdue_is : (now : ℕ) (w : Pending) (p : Waiting) (c : Chunk) → is_awaited w c.message.number ≡ some_of (is_of c.message.number) (p.unordered ++ p.ordered)
    → overdue_entry now w c ≡ expired_entry now p c
unfolding overdue_entry
overdue_is now w p c e = ap (λ (b : Bool). not c.abandoned && (passed now c.message.deadline && (not c.acked || b))) e

listed_is : (now : ℕ) (w : Pending) (p : Waiting) (t : ℕ) (l : List Chunk) → Names w p l → tsns_of (overdue_entry now w) t l ≡ tsns_of (expired_entry now p) t l
listed_is now w p t [] h = refl
listed_is now w p t (c ∷ l) h =
    let rest = listed_is now w p ((t + 1) % tsns) l (λ i z. h (suc i) (omega arith)) in
    ap (λ (b : Bool). when b then (t ∷ tsns_of (overdue_entry now w) ((t + 1) % tsns) l) else tsns_of (overdue_entry now w) ((t + 1) % tsns) l) (overdue_is now w p c (h 0 (omega arith)))
    ∙ ap (λ (m : List ℕ). when expired_entry now p c then (t ∷ m) else m) rest

pub expired_is : (now : ℕ) (w : Pending) (p : Waiting) (f : Flight) → Names w p f.entries → overdue_tsns now w f ≡ tsns_of (expired_entry now p) f.oldest f.entries
expired_is now w p f h = listed_is now w p f.oldest f.entries h
