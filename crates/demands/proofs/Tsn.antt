-- Which TSNs are taken: a yield takes one, and so does an abandonment that finds a fragment unsent; nothing else does.
use Prim.Native.Nat.{ℕ, zero, suc, ◌+◌, ◌-◌, ◌%◌, ◌≤◌, ◌<◌}
use native.Mathlib.Nat.{le_refl, le_of_eq}
use native.Mathlib.Omega.{arith}
use mathlib.Core.Path.{◌≡◌, refl, sym, ap, ◌∙◌}
use mathlib.Core.Logic.{◌≢◌}
use mathlib.Core.Bool.{Bool, true, false}
use mathlib.Core.Option.{Option, some}
use mathlib.Core.List.{List, [], ◌∷◌, ◌++◌, map}
use lib.ListN.{length, drop, get_elem?, length-append, length-map, length-drop, drop_of_length-le}
use lib.Seq.{drop-length, drop_at, drop-append_seam}
use Rattle.limits.specs.Limits.{Room, tsns}
use Rattle.model.specs.declared.Chunk.{Chunk}
use Rattle.model.specs.Lists.{adjust, last}
use Rattle.model.specs.State.{Sender, Out, fresh, next_tsn, place, in_flight, with_pending}
use Rattle.model.specs.Rings.{sent_at, given_up, terminator, terminators, pending_of, compacted, send, without}
use Rattle.model.specs.Flight.{acknowledged, to_retransmit}
use Rattle.model.specs.Calls.{Call, Answer, step, run, yielded}
use Rattle.demands.specs.Words.{abandons, files, files_of, closing}
use Rattle.demands.specs.Demand3.{TsnsTaken}
use Rattle.demands.proofs.Views.{Does, does, streams_only, writes, starts, sends, abandons_it, expires_tail, expires_whole, acks, pops, marks, send_yields}
use Rattle.std.specs.Prelude.{Some, Ok}

pub length_adjust : (g : Chunk → Chunk) (i : ℕ) (l : List Chunk) → length (adjust g i l) ≡ length l
length_adjust g i [] = refl
length_adjust g zero (c ∷ l) = refl
length_adjust g (suc i) (c ∷ l) = ap suc (length_adjust g i l)

-- an expiry leaves the flight
pub compacted_flight : (u : Bool) (id : ℕ) (s : Sender) → (compacted u id s).flight ≡ s.flight
compacted_flight true id s = refl
compacted_flight false id s = refl

-- a call files what it yields, and the terminator of what it abandons
pub files_are : (room : Room) (k : Call) (s : Sender) → files room k s ≡ yielded (step room k s).says ++ closing (abandons k s) s.pending
files_are room k s = go _ _ _ _ (does room k s)
  where
    f : List Chunk
    f = s.flight.entries

    none_new : (g : List Chunk) → length g ≡ length f → drop (length f) g ≡ []
    none_new g e = drop_of_length-le g (le_of_eq e)

    closes : (n : ℕ) → drop (length f) (map (given_up n) f ++ terminators (last (pending_of n s.pending))) ≡ terminators (last (pending_of n s.pending))
    closes n = drop_at (map (given_up n) f) (terminators (last (pending_of n s.pending))) (length f) (length-map f (given_up n))

    go : (r : Out Answer) (a x : Option ℕ) (b : Bool) → Does room k s r a x b → drop (length f) r.after.flight.entries ≡ yielded r.says ++ closing a s.pending
    go r a x b (streams_only _ _ q _) = rw q (drop-length f)
    go r a x b (writes _ _ _ _ _ _) = drop-length f
    go r a x b (starts _ _ q _) = rw q (drop-length f)
    go r a x b (sends now c _ _ _ _) = drop-append_seam f (sent_at now c ∷ [])
    go r a x b (abandons_it c _ _ q _ _) = rw q (closes c.message.number)
    go r a x b (expires_tail c _ _ q _ _) = rw q (closes c.message.number)
    go r a x b (expires_whole c _ _ q _ _) =
        rw (q, compacted_flight c.message.unordered c.message.stream (with_pending (without c.message.number s.pending) s)) (drop-length f)
    go r a x b (acks t _ _ q _) = rw q (none_new _ (length_adjust acknowledged (place t s.flight) f))
    go r a x b (pops c g e) = rw e (drop_of_length-le g {i = suc (length g)} (omega arith))
    go r a x b marks = none_new _ (length-map f to_retransmit)

-- the next TSN goes up by what is filed, modulo 2 ^ 32
grows : (s s' : Sender) → s'.flight.oldest ≡ s.flight.oldest → length s.flight.entries ≤ length s'.flight.entries
    → next_tsn s' ≡ (next_tsn s + length (drop (length s.flight.entries) s'.flight.entries)) % tsns
grows s s' e h = rw (e, length-drop (length s.flight.entries) s'.flight.entries) (omega arith)

pub tsn_step : (room : Room) (k : Call) (s : Sender) → next_tsn (step room k s).after ≡ (next_tsn s + length (files room k s)) % tsns
tsn_step room k s = go _ _ _ _ (does room k s)
  where
    f : List Chunk
    f = s.flight.entries

    longer : (n : ℕ) → length f ≤ length (map (given_up n) f ++ terminators (last (pending_of n s.pending)))
    longer n = rw (length-append (map (given_up n) f) (terminators (last (pending_of n s.pending))), length-map f (given_up n)) (omega arith)

    go : (r : Out Answer) (a x : Option ℕ) (b : Bool) → Does room k s r a x b → next_tsn r.after ≡ (next_tsn s + length (drop (length f) r.after.flight.entries)) % tsns
    go r a x b (streams_only _ _ _ _) = grows s r.after refl (le_refl _)
    go r a x b (writes _ _ _ _ _ _) = grows s r.after refl (le_refl _)
    go r a x b (starts _ _ _ _) = grows s r.after refl (le_refl _)
    go r a x b (sends now c _ _ _ _) = grows s r.after refl (rw (length-append f (sent_at now c ∷ [])) (omega arith))
    go r a x b (abandons_it c _ _ _ _ _) = grows s r.after refl (longer c.message.number)
    go r a x b (expires_tail c _ _ _ _ _) = grows s r.after refl (longer c.message.number)
    go r a x b (expires_whole c _ _ _ _ _) =
        let e = compacted_flight c.message.unordered c.message.stream (with_pending (without c.message.number s.pending) s) in
        grows s r.after (ap (λ z. z.oldest) e) (le_of_eq (ap (λ z. length z.entries) (sym e)))
    go r a x b (acks t _ _ _ _) = grows s r.after refl (le_of_eq (sym (length_adjust acknowledged (place t s.flight) f)))
    go r a x b (pops c g e) = rw (e, length-drop (suc (length g)) g) (omega arith)
    go r a x b marks = grows s r.after refl (le_of_eq (sym (length-map f to_retransmit)))

tsn_run : (room : Room) (ks : List Call) (s : Sender) → next_tsn (run room ks s) ≡ (next_tsn s + length (files_of room ks s)) % tsns
tsn_run room [] s = omega arith
tsn_run room (k ∷ ks) s =
    let s' = (step room k s).after in
    rw (length-append (files room k s) (files_of room ks s')) (tsn_run room ks s' ∙ rw (tsn_step room k s) (omega arith))

pub tsns_taken : TsnsTaken
tsns_taken room t n ks = tsn_run room ks (fresh t n) ∙ omega arith

-- ---- an abandonment

-- it yields nothing
abandon_quiet : (room : Room) (k : Call) (s : Sender) (r : Out Answer) (a x : Option ℕ) (b : Bool) (n : ℕ) → Does room k s r a x b → a ≡ some n → yielded r.says ≡ []
abandon_quiet room k s r a x b n (streams_only _ _ q _) e = q
abandon_quiet room k s r a x b n (writes _ _ _ _ _ _) e = refl
abandon_quiet room k s r a x b n (starts _ _ q _) e = q
abandon_quiet room k s r a x b n (sends _ _ _ _ _ _) e = let z : ◌≡◌ {A = ℕ} 0 1 = cc in absurd (omega arith)
abandon_quiet room k s r a x b n (abandons_it _ _ _ q _ _) e = q
abandon_quiet room k s r a x b n (expires_tail _ _ _ q _ _) e = q
abandon_quiet room k s r a x b n (expires_whole _ _ _ q _ _) e = q
abandon_quiet room k s r a x b n (acks _ _ _ q _) e = q
abandon_quiet room k s r a x b n (pops _ _ _) e = refl
abandon_quiet room k s r a x b n marks e = refl

pub closes : (room : Room) (s : Sender) (k : Call) (n : ℕ) → abandons k s ≡ some n → files room k s ≡ terminators (last (pending_of n s.pending))
closes room s k n e = files_are room k s ∙ rw (abandon_quiet room k s (step room k s) _ _ _ n (does room k s) e, e)

last_there : (l : List Chunk) → l ≢ [] → (c : Chunk) × (last l ≡ some c)
last_there [] h = absurd (h refl)
last_there (c ∷ []) h = (c, refl)
last_there (c ∷ d ∷ l) h = last_there (d ∷ l) (λ q. let z : ◌≡◌ {A = ℕ} 0 1 = cc in absurd (omega arith))

pub terminated : (room : Room) (s : Sender) (k : Call) (n : ℕ) → abandons k s ≡ some n → pending_of n s.pending ≢ []
    → (c : Chunk) × (last (pending_of n s.pending) ≡ some c) × (files room k s ≡ terminator c ∷ [])
terminated room s k n e h = let c = last_there (pending_of n s.pending) h in (c.0, c.1, closes room s k n e ∙ ap terminators c.1)

pub unterminated : (room : Room) (s : Sender) (k : Call) (n : ℕ) → abandons k s ≡ some n → pending_of n s.pending ≡ [] → files room k s ≡ []
unterminated room s k n e h = closes room s k n e ∙ ap (λ (l : List Chunk). terminators (last l)) h

-- ---- the TSN of a yield finds its chunk

get_end : (f : List Chunk) (y : Chunk) → get_elem? (f ++ (y ∷ [])) (length f) ≡ some y
get_end [] y = refl
get_end (c ∷ f) y = get_end f y

newest : (oldest n : ℕ) → oldest < tsns → n < tsns → ((oldest + n) % tsns + tsns - oldest) % tsns ≡ n
newest oldest n h k = omega arith

pub yield_found : (room : Room) (s : Sender) → room.flight ≤ tsns → s.flight.oldest < tsns → (now tsn : ℕ) (y : Chunk) → (send room now s).says ≡ Ok (Some (tsn, y))
    → ((send room now s).after.flight.entries ≡ s.flight.entries ++ (y ∷ [])) × (in_flight tsn (send room now s).after.flight ≡ some y)
yield_found room s h o now tsn y e =
    let f : List Chunk = s.flight.entries in
    let g = send_yields room s now tsn y e in
    let p : (tsn + tsns - s.flight.oldest) % tsns ≡ length f = rw (← g.tsn_is) (newest s.flight.oldest (length f) o (omega (arith, g.fits))) in
    rw (g.after_is, g.sent) (refl, rw p (get_end f y))
