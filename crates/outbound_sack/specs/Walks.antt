-- A walk over the entries of a window, and one turn of it.
use Rattle.std.specs.Prelude.{◌≡◌, ℕ, zero, suc, ◌+◌, ◌-◌, ◌/◌, ◌<◌, ◌≤◌, min, max, Bool, true, false, List, [], ◌∷◌, ◌++◌, length, take, drop, nat_le, nat_lt, slice_index, slice_index_or, refl}
use Rattle.std.proofs.Common.{sym, ap, ◌∙◌, add-zero, add-one, arith, take-append-drop, drop_of_length-le, drop-cons}
use Rattle.std.proofs.Math.Decide.{dec_lt}
use Rattle.model.specs.declared.Chunk.{Chunk}
use Rattle.model.specs.Lists.{when◌then◌else◌, adjust}
use Rattle.model.specs.Rings.{bytes}
use Rattle.model.specs.Flight.{acknowledged}
use Rattle.cells.specs.Slots.{limit}
use Rattle.chunk_slot.specs.Chunks.{blank_chunk}
use Rattle.ring.specs.declared.Ring.{Ring}
use Rattle.ring.specs.Held.{held, length_held}
use Rattle.payload_queue.specs.Sums.{bytes_acked}
use Rattle.outbound_sack.specs.Ends.{reached}

-- ---- one entry

abbrev pub adjust_if : Bool → ℕ → List Chunk → List Chunk
adjust_if b i l = when b then adjust acknowledged i l else l

-- the i-th of the entries `l` is acknowledged if it is covered, `m` are the entries then, and n bytes are released
abbrev pub AcknowledgesIf : (covered : Bool) → (i : ℕ) → (l m : List Chunk) → (n : ℕ) → Type 0
AcknowledgesIf b i l m n = (m ≡ adjust_if b i l) × (n + bytes m ≡ bytes l)

pub not_covered : {b : Bool} (i : ℕ) (l : List Chunk) → b ≡ false → AcknowledgesIf b i l l 0
not_covered i l e = (sym (ap (λ (t : Bool). adjust_if t i l) e), omega arith)

pub is_covered : {b : Bool} (i : ℕ) (l : List Chunk) {m : List Chunk} {n : ℕ} → b ≡ true → n ≡ (slice_index_or l i blank_chunk).length → m ≡ adjust acknowledged i l → AcknowledgesIf b i l m n
is_covered i l e p q = (q ∙ sym (ap (λ (t : Bool). adjust_if t i l) e), omega (arith, p, ap bytes q, bytes_acked i l))

-- ---- the entries of a window

-- the entries from place j on, whose first has offset k, are walked; those before stay
abbrev pub walked : (j k : ℕ) → (ends : List ℕ) → (top : ℕ) → List Chunk → List Chunk
walked j k ends top l = take j l ++ reached ends top k (drop j l)

-- the furthest end behind the walk
abbrev pub top_after : (ends : List ℕ) → (top : ℕ) → List Chunk → ℕ
top_after [] top l = top
top_after (e ∷ es) top [] = top
top_after (e ∷ es) top (c ∷ l) = top_after es (max top e) l

-- a walk over the entries `l` from place j on: `m` are the entries then, `reach` is the furthest end, and n bytes are released
abbrev pub WalksOver : (ends : List ℕ) → (j top : ℕ) → (l m : List Chunk) → (reach n : ℕ) → Type 0
WalksOver ends j top l m reach n = (m ≡ walked j (suc j) ends top l) × (reach ≡ top_after ends top (drop j l)) × (n + bytes m ≡ bytes l)

-- ---- one turn: the entry at place j is acknowledged if the furthest end reaches it

walk_turn : (j k e : ℕ) (es : List ℕ) (top : ℕ) (l : List Chunk) → j < length l → walked (suc j) (suc k) es (max top e) (adjust_if (nat_le k (max top e)) j l) ≡ walked j k (e ∷ es) top l
walk_turn j k e es top [] h = absurd (omega arith)
walk_turn zero k e es top (c ∷ l) h = by (nat_le k (max top e))
  where
    by : (b : Bool) → walked 1 (suc k) es (max top e) (adjust_if b 0 (c ∷ l)) ≡ (when b then acknowledged c else c) ∷ reached es (max top e) (suc k) l
    by true = refl
    by false = refl
walk_turn (suc j) k e es top (c ∷ l) h = by (nat_le k (max top e)) (walk_turn j k e es top l (omega arith))
  where
    by : (b : Bool) → walked (suc j) (suc k) es (max top e) (adjust_if b j l) ≡ walked j k (e ∷ es) top l
        → walked (suc (suc j)) (suc k) es (max top e) (adjust_if b (suc j) (c ∷ l)) ≡ c ∷ walked j k (e ∷ es) top l
    by true g = ap (λ (r : List Chunk). c ∷ r) g
    by false g = ap (λ (r : List Chunk). c ∷ r) g

top_turn : (b : Bool) (j e : ℕ) (es : List ℕ) (top : ℕ) (l : List Chunk) → j < length l → top_after es (max top e) (drop (suc j) (adjust_if b j l)) ≡ top_after (e ∷ es) top (drop j l)
top_turn b j e es top [] h = absurd (omega arith)
top_turn true zero e es top (c ∷ l) h = refl
top_turn false zero e es top (c ∷ l) h = refl
top_turn true (suc j) e es top (c ∷ l) h = top_turn true j e es top l (omega arith)
top_turn false (suc j) e es top (c ∷ l) h = top_turn false j e es top l (omega arith)

-- ---- the end: no end is left, or no entry

pub nothing_reached : (es : List ℕ) (top k : ℕ) → reached es top k [] ≡ []
nothing_reached [] top k = refl
nothing_reached (e ∷ es) top k = refl

no_top : (es : List ℕ) (top : ℕ) → top_after es top [] ≡ top
no_top [] top = refl
no_top (e ∷ es) top = refl

ends_spent : (j k : ℕ) {es : List ℕ} (top : ℕ) (l : List Chunk) → es ≡ [] → (walked j k es top l ≡ l) × (top_after es top (drop j l) ≡ top)
ends_spent j k top l e =
    (ap (λ (x : List ℕ). take j l ++ reached x top k (drop j l)) e ∙ take-append-drop j l, ap (λ (x : List ℕ). top_after x top (drop j l)) e)

entries_spent : (j k : ℕ) (es : List ℕ) (top : ℕ) (l : List Chunk) → length l ≤ j → (walked j k es top l ≡ l) × (top_after es top (drop j l) ≡ top)
entries_spent j k es top l h =
    let d = drop_of_length-le l h in
    (ap (λ (x : List Chunk). take j l ++ reached es top k x) d ∙ ap (λ (x : List Chunk). take j l ++ x) (nothing_reached es top k ∙ sym d) ∙ take-append-drop j l, ap (top_after es top) d ∙ no_top es top)

-- ---- a ring in as many words holds as many

pub as_many : (r : Ring) (ws vs : List ℕ) → length vs ≡ length ws → length (held r vs) ≡ length (held r ws)
as_many r ws vs e = length_held r vs ∙ ap (λ (n : ℕ). min r.len (min (n / 8) limit)) e ∙ sym (length_held r ws)

-- ---- between two turns: i entries of the window are done, `l` are the entries now, and `l₀` those before

pub record Going (ends : List ℕ) (from top : ℕ) (l₀ : List Chunk) (i furthest sum : ℕ) (l : List Chunk) : Type 0 where
  pub ahead : walked (from + i) (suc (from + i)) (drop i ends) furthest l ≡ walked from (suc from) ends top l₀
  pub reach : top_after (drop i ends) furthest (drop (from + i) l) ≡ top_after ends top (drop from l₀)
  pub freed : sum + bytes l ≡ bytes l₀

module _ (ends : List ℕ) (from top : ℕ) (l₀ : List Chunk) where
  pub going_start : Going ends from top l₀ 0 top 0 l₀
  going_start =
      record {
        ahead = ap (λ (j : ℕ). walked j (suc j) ends top l₀) (add-zero from);
        reach = ap (λ (j : ℕ). top_after ends top (drop j l₀)) (add-zero from);
        freed = omega arith;
      }

  pub going_turn : (i furthest sum held : ℕ) {f : ℕ} {l m : List Chunk} → i < length ends → from + i < length l → f ≡ max furthest (slice_index ends i) → AcknowledgesIf (nat_lt (from + i) f) (from + i) l m held
      → Going ends from top l₀ i furthest sum l → Going ends from top l₀ (i + 1) f (sum + held) m
  going_turn i furthest sum held {f} {l} {m} h z e q g =
      let j = from + i in
      let x = slice_index_or ends i 0 in
      let es = drop (suc i) ends in
      let n : from + (i + 1) ≡ suc j = omega arith in
      let d : drop i ends ≡ x ∷ es = drop-cons ends i 0 h in
      let m' : m ≡ adjust_if (nat_lt j (max furthest x)) j l = q.0 ∙ ap (λ (t : ℕ). adjust_if (nat_lt j t) j l) e in
      record {
        ahead =
            (λ u. walked (n u) (suc (n u)) (drop (add-one i u) ends) (e u) (m' u)) ∙ walk_turn j (suc j) x es furthest l z ∙ ap (λ (y : List ℕ). walked j (suc j) y furthest l) (sym d)
            ∙ g.ahead;
        reach =
            (λ u. top_after (drop (add-one i u) ends) (e u) (drop (n u) (m' u))) ∙ top_turn (nat_lt j (max furthest x)) j x es furthest l z
            ∙ ap (λ (y : List ℕ). top_after y furthest (drop j l)) (sym d) ∙ g.reach;
        freed = omega (arith, q.1, g.freed);
      }

  pub going_done : (i furthest sum : ℕ) {l : List Chunk} → i ≡ min (length ends) (length l - from) → Going ends from top l₀ i furthest sum l → WalksOver ends from top l₀ l furthest sum
  going_done i furthest sum {l} e g = go (dec_lt i (length ends))
    where
      told : (walked (from + i) (suc (from + i)) (drop i ends) furthest l ≡ l) × (top_after (drop i ends) furthest (drop (from + i) l) ≡ furthest) → WalksOver ends from top l₀ l furthest sum
      told p = (sym p.0 ∙ g.ahead, sym p.1 ∙ g.reach, g.freed)

      go : Dec (i < length ends) → WalksOver ends from top l₀ l furthest sum
      go (yes h) = told (entries_spent (from + i) (suc (from + i)) (drop i ends) furthest l (omega arith))
      go (no h) = let k : length ends ≤ i = omega arith in told (ends_spent (from + i) (suc (from + i)) furthest l (drop_of_length-le ends k))
