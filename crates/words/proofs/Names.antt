-- Two names of the same number are the same name: names of one length differ at a letter, and of two lengths the longer has the larger
-- number, since no letter is worth nothing.
use mathlib.Core.Path.{◌≡◌, refl, sym, ap, ◌∙◌}
use Prim.Native.Nat.{ℕ, suc, ◌+◌, ◌*◌, ◌-◌, ◌≤◌, ◌<◌}
use mathlib.Core.Bool.{Bool, true, false, ◌&&◌}
use mathlib.Core.List.{List, [], ◌∷◌}
use native.Mathlib.Omega.{arith}
use lib.Dec.{ltb}
use lib.ListN.{length}
use borrow.Author.Tests.{ltb-true, ltb-false}
use Rattle.std.proofs.lemmas.Bool.{and_parts}
use Rattle.std.proofs.lemmas.Bool.Decides.{nat_tests}
use Rattle.words.specs.Figures.{all, behind, letter, code}
use Rattle.words.specs.Claims.{NamesDiffer}

-- a letter is worth 1 to 26
module _ (b : ℕ) (e : letter b ≡ true) where
  low : 97 ≤ b
  low = grind (arith, nat_tests)

  high : b ≤ 122
  high = grind (arith, nat_tests)

record Same (m n : ℕ) (v w : List ℕ) : Type 0 where
  before : m ≡ n
  letters : v ≡ w

-- names of one length behind any numbers
aligned : (v w : List ℕ) (m n : ℕ) → all letter v ≡ true → all letter w ≡ true → length v ≡ length w → behind 64 96 m v ≡ behind 64 96 n w → Same m n v w
aligned [] [] m n p q l e = record { before = e; letters = refl }
aligned [] (d ∷ w) m n p q l e = absurd (omega arith)
aligned (b ∷ v) [] m n p q l e = absurd (omega arith)
aligned (b ∷ v) (d ∷ w) m n p q l e =
    let lb = (and_parts (letter b) (all letter v) p).0 in
    let ld = (and_parts (letter d) (all letter w) q).0 in
    let rest = aligned v w (m * 64 + (b - 96)) (n * 64 + (d - 96)) (and_parts (letter b) (all letter v) p).1 (and_parts (letter d) (all letter w) q).1 (omega arith) e in
    let x : b ≡ d = omega (arith, rest.before, low b lb, high b lb, low d ld, high d ld) in
    let y : m ≡ n = omega (arith, rest.before, low b lb, high b lb, low d ld, high d ld) in
    record { before = y; letters = ap (λ (k : ℕ). k ∷ v) x ∙ ap (λ (r : List ℕ). d ∷ r) rest.letters }

-- a longer name, behind any number, by whether it is still longer without its first letter
by_length : (v : List ℕ) (d : ℕ) (w : List ℕ) (n : ℕ) → all letter v ≡ true → letter d && all letter w ≡ true → length v < suc (length w)
    → behind 64 96 0 v ≡ behind 64 96 (n * 64 + (d - 96)) w → ((k : ℕ) → length v < length w → behind 64 96 0 v ≡ behind 64 96 k w → ⊥)
    → (t : Bool) → ltb (length v) (length w) ≡ t → ⊥
by_length v d w n p q l e shorter true h = shorter (n * 64 + (d - 96)) (ltb-true _ _ h) e
by_length v d w n p q l e shorter false h =
    let same = aligned v w 0 (n * 64 + (d - 96)) p (and_parts (letter d) (all letter w) q).1 (omega (arith, ltb-false (length v) (length w) h)) e in
    let one = low d (and_parts (letter d) (all letter w) q).0 in
    omega (arith, same.before)

longer : (v w : List ℕ) (n : ℕ) → all letter v ≡ true → all letter w ≡ true → length v < length w → behind 64 96 0 v ≡ behind 64 96 n w → ⊥
longer v [] n p q l e = omega arith
longer v (d ∷ w) n p q l e =
    by_length v d w n p q (omega arith) e (λ k h g. longer v w k p (and_parts (letter d) (all letter w) q).1 h g) (ltb (length v) (length w)) refl

by_lengths : (v w : List ℕ) → all letter v ≡ true → all letter w ≡ true → code v ≡ code w → (s t : Bool) → ltb (length v) (length w) ≡ s → ltb (length w) (length v) ≡ t → v ≡ w
by_lengths v w p q e true t h g = absurd (longer v w 0 p q (ltb-true _ _ h) e)
by_lengths v w p q e false true h g = absurd (longer w v 0 q p (ltb-true _ _ g) (sym e))
by_lengths v w p q e false false h g =
    (aligned v w 0 0 p q (omega (arith, ltb-false (length v) (length w) h, ltb-false (length w) (length v) g)) e).letters

pub names_differ : NamesDiffer
names_differ v w p q e = by_lengths v w p q e (ltb (length v) (length w)) (ltb (length w) (length v)) refl refl
