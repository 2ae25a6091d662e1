-- The run of a message's entries around a place: from there back to its first, and from that on as far as they follow one another.
use Rattle.std.specs.Prelude.{◌≡◌, ℕ, zero, suc, ◌+◌, ◌-◌, ◌<◌, ◌≤◌, Bool, true, false, List, [], ◌∷◌, length, get_or, slice_index_or, refl}
use Rattle.std.proofs.Common.{sym, ap, ◌∙◌, add-one, arith}
use Rattle.model.specs.declared.Chunk.{Chunk}
use Rattle.model.specs.Lists.{when◌then◌else◌, adjust}
use Rattle.model.specs.State.{is_of}
use Rattle.model.specs.Rings.{bytes, marked, given_up}
use Rattle.chunk_slot.specs.Chunks.{blank_chunk}

-- where the run begins that reaches up to the place
abbrev pub first_of : (number near : ℕ) → List Chunk → ℕ
first_of n zero l = 0
first_of n (suc i) l = when is_of n (slice_index_or l i blank_chunk) then first_of n i l else suc i

-- its leading run is given up, and holds so much
abbrev pub given_up_run : (number : ℕ) → List Chunk → List Chunk
given_up_run n [] = []
given_up_run n (c ∷ l) = when is_of n c then (given_up n c ∷ given_up_run n l) else (c ∷ l)

abbrev pub held_run : (number : ℕ) → List Chunk → ℕ
held_run n [] = 0
held_run n (c ∷ l) = when is_of n c then c.length + held_run n l else 0

-- the same of the run from a place on
abbrev pub given_up_from : (number from : ℕ) → List Chunk → List Chunk
given_up_from n zero l = given_up_run n l
given_up_from n (suc i) [] = []
given_up_from n (suc i) (c ∷ l) = c ∷ given_up_from n i l

abbrev pub held_from : (number from : ℕ) → List Chunk → ℕ
held_from n zero l = held_run n l
held_from n (suc i) [] = 0
held_from n (suc i) (c ∷ l) = held_from n i l

-- and of the run around it
abbrev pub given_up_near : (number near : ℕ) → List Chunk → List Chunk
given_up_near n i l = given_up_from n (first_of n i l) l

abbrev pub held_near : (number near : ℕ) → List Chunk → ℕ
held_near n i l = held_from n (first_of n i l) l

module _ (n : ℕ) where
  -- ---- a turn of the way back, from i to i - 1

  module _ (l : List Chunk) (i : ℕ) (z : 0 < i) where
    abbrev picks : Bool → ℕ
    picks b = when b then first_of n (i - 1) l else suc (i - 1)

    down : suc (i - 1) ≡ i
    down = omega arith

    pub first_turn : is_of n (slice_index_or l (i - 1) blank_chunk) ≡ true → first_of n (i - 1) l ≡ first_of n i l
    first_turn e = sym (ap picks e) ∙ ap (λ (k : ℕ). first_of n k l) down

    pub first_stop : is_of n (slice_index_or l (i - 1) blank_chunk) ≡ false → i ≡ first_of n i l
    first_stop e = sym down ∙ sym (ap picks e) ∙ ap (λ (k : ℕ). first_of n k l) down

  -- ---- a turn of the way on: `m` are the entries then, given up before `i`

  pub length_adjust : (f : Chunk → Chunk) (i : ℕ) (m : List Chunk) → length (adjust f i m) ≡ length m
  length_adjust f i [] = refl
  length_adjust f zero (c ∷ m) = refl
  length_adjust f (suc i) (c ∷ m) = ap suc (length_adjust f i m)

  given_suc : (m : List Chunk) (i : ℕ) → i < length m → is_of n (slice_index_or m i blank_chunk) ≡ true → given_up_from n (suc i) (adjust (given_up n) i m) ≡ given_up_from n i m
  given_suc [] i h e = absurd (omega arith)
  given_suc (c ∷ m) zero h e = sym (ap (λ (b : Bool). when b then (given_up n c ∷ given_up_run n m) else (c ∷ m)) e)
  given_suc (c ∷ m) (suc i) h e = ap (λ (r : List Chunk). c ∷ r) (given_suc m i (omega arith) e)

  held_suc : (m : List Chunk) (i : ℕ) → i < length m → is_of n (slice_index_or m i blank_chunk) ≡ true → (get_or m i blank_chunk).length + held_from n (suc i) (adjust (given_up n) i m) ≡ held_from n i m
  held_suc [] i h e = absurd (omega arith)
  held_suc (c ∷ m) zero h e = sym (ap (λ (b : Bool). when b then c.length + held_run n m else 0) e)
  held_suc (c ∷ m) (suc i) h e = held_suc m i (omega arith) e

  -- nothing is left to give up
  pub given_stop : (m : List Chunk) (i : ℕ) → is_of n (slice_index_or m i blank_chunk) ≡ false → (m ≡ given_up_from n i m) × (held_from n i m ≡ 0)
  given_stop [] zero e = (refl, refl)
  given_stop [] (suc i) e = (refl, refl)
  given_stop (c ∷ m) zero e = (sym (ap (λ (b : Bool). when b then (given_up n c ∷ given_up_run n m) else (c ∷ m)) e), ap (λ (b : Bool). when b then c.length + held_run n m else 0) e)
  given_stop (c ∷ m) (suc i) e = let z = given_stop m i e in (ap (λ (r : List Chunk). c ∷ r) z.0, z.1)

  pub given_end : (m : List Chunk) (i : ℕ) → length m ≤ i → (m ≡ given_up_from n i m) × (held_from n i m ≡ 0)
  given_end [] zero h = (refl, refl)
  given_end [] (suc i) h = (refl, refl)
  given_end (c ∷ m) zero h = absurd (omega arith)
  given_end (c ∷ m) (suc i) h = let z = given_end m i (omega arith) in (ap (λ (r : List Chunk). c ∷ r) z.0, z.1)

  -- ---- the loop: `l` are the entries before it

  pub record Giving (from : ℕ) (l : List Chunk) (i : ℕ) (m : List Chunk) (sum : ℕ) : Type 0 where
    pub same : length m ≡ length l
    pub given : given_up_from n i m ≡ given_up_from n from l
    pub told : sum + held_from n i m ≡ held_from n from l

  pub giving_start : (from : ℕ) (l : List Chunk) → Giving from l from l 0
  giving_start from l = record { same = refl; given = refl; told = omega arith }

  module _ {from : ℕ} {l : List Chunk} {i : ℕ} {m : List Chunk} {sum : ℕ} (g : Giving from l i m sum) where
    pub giving_turn : i < length l → is_of n (slice_index_or m i blank_chunk) ≡ true → {m' : List Chunk} {k : ℕ} → m' ≡ adjust (given_up n) i m → k ≡ (get_or m i blank_chunk).length → Giving from l (i + 1) m' (sum + k)
    giving_turn h e {m'} {k} q r =
        let s : i < length m = omega (arith, g.same) in
        let a : given_up_from n (suc i) m' ≡ given_up_from n i m = ap (given_up_from n (suc i)) q ∙ given_suc m i s e in
        let b : k + held_from n (suc i) m' ≡ held_from n i m = omega (arith, r, ap (held_from n (suc i)) q, held_suc m i s e) in
        let t : sum + k + held_from n (suc i) m' ≡ held_from n from l = omega (arith, b, g.told) in
        record { same = ap length q ∙ length_adjust (given_up n) i m ∙ g.same; given = rw add-one (a ∙ g.given); told = rw add-one t }

    over : (m ≡ given_up_from n i m) × (held_from n i m ≡ 0) → (sum ≡ held_from n from l) × (m ≡ given_up_from n from l)
    over z = (omega (arith, z.1, g.told), z.0 ∙ g.given)

    pub giving_stop : is_of n (slice_index_or m i blank_chunk) ≡ false → (sum ≡ held_from n from l) × (m ≡ given_up_from n from l)
    giving_stop e = over (given_stop m i e)

    pub giving_end : length l ≤ i → (sum ≡ held_from n from l) × (m ≡ given_up_from n from l)
    giving_end h = over (given_end m i (omega (arith, g.same)))

  -- ---- the entries hold so much less for it

  run_bytes : (l : List Chunk) → bytes (given_up_run n l) + held_run n l ≡ bytes l
  run_bytes [] = refl
  run_bytes (c ∷ l) = by (is_of n c) refl (run_bytes l)
    where
      by : (b : Bool) → is_of n c ≡ b → bytes (given_up_run n l) + held_run n l ≡ bytes l
          → bytes (when b then (given_up n c ∷ given_up_run n l) else (c ∷ l)) + (when b then c.length + held_run n l else 0) ≡ bytes (c ∷ l)
      by true e h = omega (arith, h, ap (λ (b : Bool). (when b then marked 0 c.acked true false c else c).length) e)
      by false e h = omega arith

  pub from_bytes : (i : ℕ) (l : List Chunk) → bytes (given_up_from n i l) + held_from n i l ≡ bytes l
  from_bytes zero l = run_bytes l
  from_bytes (suc i) [] = refl
  from_bytes (suc i) (c ∷ l) = omega (arith, from_bytes i l)
