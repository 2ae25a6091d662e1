-- What lines do to the script's arrays of bytes, and the laws of it.
use Rattle.std.specs.Prelude.{◌≡◌, ℕ, zero, suc, ◌+◌, ◌-◌, ◌/◌, ◌%◌, ◌<◌, ◌≤◌, Bool, true, false, List, [], ◌∷◌, ◌++◌, length, take, drop, set, slice_index, slice_set, refl}
use Rattle.std.proofs.Common.{sym, ap, ◌∙◌, append-nil, zero-add, arith, length-append, drop_of_length-le}
use Rattle.std.proofs.lemmas.List.Edits.{sets}
use Rattle.std.proofs.lemmas.List.{set_comm}
use Rattle.octets.specs.Puts.{placed, place_more, placed_all, sets_append, sets_front}
use Rattle.model.specs.State.{Sender}
use Rattle.model.specs.Data.{data_chunk}

-- ---- every byte: the seed; or by the rule, so that bytes that are shifted by less than 65,536 places differ

abbrev pub byte_for : (ruled : Bool) → (seed place : ℕ) → ℕ
byte_for true s i = (s + i + i / 256) % 256
byte_for false s i = s

-- so many, each by its place
abbrev pub by_place : (byte : ℕ → ℕ) → (count : ℕ) → List ℕ
by_place f zero = []
by_place f (suc n) = f 0 ∷ by_place (λ i. f (suc i)) n

abbrev pub filled : (ruled : Bool) → (seed count : ℕ) → List ℕ
filled r s n = by_place (byte_for r s) n

-- ---- the last bytes of a number, so many, the highest first

abbrev pub last_bytes : (width value : ℕ) → List ℕ
last_bytes zero v = []
last_bytes (suc w) v = last_bytes w (v / 256) ++ (v % 256 ∷ [])

-- ---- a DATA chunk: its payload is in the first `lent` bytes of the memory, and the first `room` bytes of the wire are for it; beyond an array's
-- end there are none

abbrev pub data_in : (tsn lent room : ℕ) → (memory wire : List ℕ) → Sender → List ℕ
data_in t n m memory wire s = (data_chunk t (take n memory) (take m wire) s).out ++ drop m wire

-- ---- laws

by_place_length : (f : ℕ → ℕ) (n : ℕ) → length (by_place f n) ≡ n
by_place_length f zero = refl
by_place_length f (suc n) = ap suc (by_place_length (λ i. f (suc i)) n)

by_place_at : (f : ℕ → ℕ) (n i : ℕ) → i < n → slice_index (by_place f n) i ≡ f i
by_place_at f zero i h = absurd (omega arith)
by_place_at f (suc n) zero h = refl
by_place_at f (suc n) (suc i) h = by_place_at (λ j. f (suc j)) n i (omega arith)

-- a loop that puts every byte of ws
module _ (f : ℕ → ℕ) (ws : List ℕ) where
  -- the bytes when i are put
  abbrev pub filling : ℕ → List ℕ
  filling i = placed (by_place f (length ws)) ws 0 i

  pub fill_more : (i : ℕ) {vs : List ℕ} {b : ℕ} → i < length ws → vs ≡ filling i → b ≡ f i → slice_set vs i b ≡ filling (i + 1)
  fill_more i h p q =
      let n = by_place_length f (length ws) in
      (λ j. set (p j) i (q j)) ∙ ap (λ (j : ℕ). set (filling i) j (f i)) (sym (zero-add i))
      ∙ ap (set (filling i) (0 + i)) (sym (by_place_at f (length ws) i h))
      ∙ place_more (by_place f (length ws)) ws 0 i 0 (omega (arith, n))

  pub fill_all : (i : ℕ) → i ≡ length ws → filling i ≡ by_place f (length ws)
  fill_all i e =
      let n = by_place_length f (length ws) in
      let h : length ws ≤ length (by_place f (length ws)) = omega (arith, n) in
      placed_all (by_place f (length ws)) ws 0 i (omega (arith, n, e))
      ∙ sets_front (by_place f (length ws)) ws (omega (arith, n))
      ∙ ap (λ (l : List ℕ). by_place f (length ws) ++ l) (drop_of_length-le ws h)
      ∙ append-nil (by_place f (length ws))

-- a loop that puts a number's bytes from the last on: what is left comes to the whole
last_length : (w v : ℕ) → length (last_bytes w v) ≡ w
last_length zero v = refl
last_length (suc w) v = length-append (last_bytes w (v / 256)) (v % 256 ∷ []) ∙ omega (arith, last_length w (v / 256))

sets_before : (us ws : List ℕ) (at k u : ℕ) → at + length us ≤ k → sets (slice_set ws k u) at us ≡ slice_set (sets ws at us) k u
sets_before [] ws at k u h = refl
sets_before (x ∷ us) ws at k u h =
    ap (λ (l : List ℕ). sets l (suc at) us) (set_comm ws k at u x (λ e. omega arith)) ∙ sets_before us (slice_set ws at x) (suc at) k u (omega arith)

pub put_more : (ws : List ℕ) (from i v : ℕ) {vs : List ℕ} → 0 < i → vs ≡ slice_set ws (from + (i - 1)) (v % 256) → sets vs from (last_bytes (i - 1) (v / 256)) ≡ sets ws from (last_bytes i v)
put_more ws from i v h p =
    let l = last_bytes (i - 1) (v / 256) in
    let n = last_length (i - 1) (v / 256) in
    let e : suc (i - 1) ≡ i = omega arith in
    ap (λ (vs : List ℕ). sets vs from l) p ∙ sets_before l ws from (from + (i - 1)) (v % 256) (omega (arith, n))
    ∙ ap (λ (j : ℕ). set (sets ws from l) (from + j) (v % 256)) (sym n)
    ∙ sym (sets_append l (v % 256 ∷ []) ws from)
    ∙ ap (λ (j : ℕ). sets ws from (last_bytes j v)) e
