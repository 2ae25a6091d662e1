-- A block is a range of entries, and blocks come one after the other: an entry that was acknowledged stays as it is.
use mathlib.Core.Path.{◌≡◌, refl, sym, ap, ◌∙◌}
use mathlib.Core.Bool.{Bool, true, false, ◌||◌}
use mathlib.Core.List.{List, [], ◌∷◌}
use Prim.Native.Nat.{ℕ, zero, suc, ◌+◌, ◌-◌, ◌≤◌, ◌<◌, max}
use native.Mathlib.Decide.{dec_lt}
use native.Mathlib.Omega.{arith}
use borrow.Author.Tests.{le-leb, lt-leb}
use Rattle.model.specs.declared.Block.{Block}
use Rattle.model.specs.declared.Chunk.{Chunk}
use Rattle.model.specs.Lists.{when◌then◌else◌, some_of, adjust}
use Rattle.model.specs.Flight.{acknowledged}
use Rattle.demands.specs.Sacks.{inside, gapped}

-- n entries from place a on are acknowledged, one by one
abbrev pub acks : (n a : ℕ) → List Chunk → List Chunk
acks zero a l = l
acks (suc n) a l = acks n (suc a) (adjust acknowledged a l)

acks_nil : (n a : ℕ) → acks n a [] ≡ []
acks_nil zero a = refl
acks_nil (suc n) zero = acks_nil n 1
acks_nil (suc n) (suc a) = acks_nil n (suc (suc a))

acks_later : (n a : ℕ) (c : Chunk) (l : List Chunk) → acks n (suc a) (c ∷ l) ≡ c ∷ acks n a l
acks_later zero a c l = refl
acks_later (suc n) a c l = acks_later n (suc a) c (adjust acknowledged a l)

-- ---- a block as a range: `acks` of what is left of it

module _ (b : Block) where
  -- how many it covers from offset i on, and how far the first is
  abbrev many : ℕ → ℕ
  many i = (b.end + 1) - max i b.start

  abbrev far : ℕ → ℕ
  far i = b.start - i

  outside : (i : ℕ) → inside i b ≡ false → (c : Chunk) (l : List Chunk) → gapped (b ∷ []) i (c ∷ l) ≡ c ∷ gapped (b ∷ []) (suc i) l
  outside i e c l = ap (λ (t : Bool). (when t || false then acknowledged c else c) ∷ gapped (b ∷ []) (suc i) l) e

  within : (i : ℕ) → inside i b ≡ true → (c : Chunk) (l : List Chunk) → gapped (b ∷ []) i (c ∷ l) ≡ acknowledged c ∷ gapped (b ∷ []) (suc i) l
  within i e c l = ap (λ (t : Bool). (when t || false then acknowledged c else c) ∷ gapped (b ∷ []) (suc i) l) e

  pub block_range : (i : ℕ) (l : List Chunk) → gapped (b ∷ []) i l ≡ acks (many i) (far i) l
  block_range i [] = sym (acks_nil (many i) (far i))
  block_range i (c ∷ l) = go (dec_lt i b.start) (dec_lt b.end i) (block_range (suc i) l)
    where
      go : Dec (i < b.start) → Dec (b.end < i) → gapped (b ∷ []) (suc i) l ≡ acks (many (suc i)) (far (suc i)) l → gapped (b ∷ []) i (c ∷ l) ≡ acks (many i) (far i) (c ∷ l)
      go (yes h) _ rest =
          let e : inside i b ≡ false = rw (lt-leb b.start i h) in
          let f : far i ≡ suc (far (suc i)) = omega arith in
          let m : many (suc i) ≡ many i = omega arith in
          outside i e c l ∙ ap (λ (r : List Chunk). c ∷ r) (rest ∙ ap (λ (n : ℕ). acks n (far (suc i)) l) m) ∙ sym (acks_later (many i) (far (suc i)) c l)
          ∙ ap (λ (a : ℕ). acks (many i) a (c ∷ l)) (sym f)
      go (no h) (yes k) rest =
          let g : b.start ≤ i = omega arith in
          let e : inside i b ≡ false = rw (le-leb b.start i g, lt-leb i b.end k) in
          let m : many (suc i) ≡ 0 = omega arith in
          let n : many i ≡ 0 = omega arith in
          outside i e c l ∙ ap (λ (r : List Chunk). c ∷ r) (rest ∙ ap (λ (j : ℕ). acks j (far (suc i)) l) m) ∙ ap (λ (j : ℕ). acks j (far i) (c ∷ l)) (sym n)
      go (no h) (no k) rest =
          let g : b.start ≤ i = omega arith in
          let r : i ≤ b.end = omega arith in
          let e : inside i b ≡ true = rw (le-leb b.start i g, le-leb i b.end r) in
          let m : many i ≡ suc (many (suc i)) = omega arith in
          let f : far i ≡ 0 = omega arith in
          let f' : far (suc i) ≡ 0 = omega arith in
          within i e c l ∙ ap (λ (x : List Chunk). acknowledged c ∷ x) (rest ∙ ap (λ (a : ℕ). acks (many (suc i)) a l) f') ∙ sym (acks_later (many (suc i)) 0 (acknowledged c) l)
          ∙ (λ j. acks (sym m j) (sym f j) (c ∷ l))

-- ---- one block after the other

pub no_gaps : (i : ℕ) (l : List Chunk) → gapped [] i l ≡ l
no_gaps i [] = refl
no_gaps i (c ∷ l) = ap (λ (r : List Chunk). c ∷ r) (no_gaps (suc i) l)

twice : (x y : Bool) (c : Chunk) → (when y then acknowledged (when x || false then acknowledged c else c) else (when x || false then acknowledged c else c)) ≡ (when x || y then acknowledged c else c)
twice true true c = refl
twice true false c = refl
twice false true c = refl
twice false false c = refl

pub more_gaps : (b : Block) (bs : List Block) (i : ℕ) (l : List Chunk) → gapped bs i (gapped (b ∷ []) i l) ≡ gapped (b ∷ bs) i l
more_gaps b bs i [] = refl
more_gaps b bs i (c ∷ l) = λ j. twice (inside i b) (some_of (inside i) bs) c j ∷ more_gaps b bs (suc i) l j
