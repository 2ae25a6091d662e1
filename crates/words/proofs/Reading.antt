-- Read byte by byte a word is what it is as a whole: the value of its figures only grows, so a word that is too large on the way is so at
-- its end.
use mathlib.Core.Path.{◌≡◌, refl, ap, ◌∙◌}
use Prim.Native.Nat.{ℕ, ◌+◌, ◌*◌, ◌-◌, ◌≤◌, ◌<◌}
use mathlib.Core.Bool.{Bool, true, false, cond}
use mathlib.Core.List.{List, [], ◌∷◌}
use native.Mathlib.Omega.{arith}
use lib.Dec.{leb, eqb}
use borrow.Author.Tests.{leb-true, leb-false, le-leb, lt-leb}
use Rattle.std.specs.Prelude.{Some, None}
use Rattle.words.specs.declared.Token.{Token}
use Rattle.std.proofs.lemmas.Bool.Decides.{nat_tests}
use Rattle.words.specs.Figures.{all, behind, digit, letter, number_max, name_max}
use Rattle.words.specs.Tokens.{token_of, number, name, dashed, begin_of, begun, grow_of, grown, held_as, appended_of}
use Rattle.words.specs.Claims.{ReadsWords}

-- what is no word stays none
other_stays : (bs : List ℕ) → grown Token.Other bs ≡ Token.Other
other_stays [] = refl
other_stays (b ∷ bs) = other_stays bs

neither : (t : Bool) → Token.Other ≡ cond t Token.Other Token.Other
neither true = refl
neither false = refl

-- figures of one kind, in a base, up to a limit, held as one kind of word
module _ (ok : ℕ → Bool) (base z limit : ℕ) (held : ℕ → Token) (larger : (v x : ℕ) → v ≤ v * base + x)
    (grows : (v b : ℕ) → grow_of (held v) b ≡ cond (ok b) (cond (leb (v * base + (b - z)) limit) (held (v * base + (b - z))) Token.Other) Token.Other)
  where
    rises : (bs : List ℕ) (v : ℕ) → v ≤ behind base z v bs
    rises [] v = omega arith
    rises (b ∷ bs) v = omega (arith, larger v (b - z), rises bs (v * base + (b - z)))

    abbrev whole : ℕ → List ℕ → Token
    whole v bs = cond (all ok bs) (cond (leb (behind base z v bs) limit) (held (behind base z v bs)) Token.Other) Token.Other

    -- with one byte more, by whether it is of the kind and whether the value stays within the limit
    more : (b : ℕ) (bs : List ℕ) (v : ℕ) → ((w : ℕ) → w ≤ limit → grown (held w) bs ≡ whole w bs)
        → (d t : Bool) → ok b ≡ d → leb (v * base + (b - z)) limit ≡ t → grown (grow_of (held v) b) bs ≡ whole v (b ∷ bs)
    more b bs v rest true true p q = simp (grows v b, p, q) (rest (v * base + (b - z)) (leb-true _ _ q))
    more b bs v rest true false p q =
        let far : limit < behind base z (v * base + (b - z)) bs = omega (arith, leb-false (v * base + (b - z)) limit q, rises bs (v * base + (b - z))) in
        simp (grows v b, p, q, lt-leb (behind base z (v * base + (b - z)) bs) limit far, other_stays bs) (neither (all ok bs))
    more b bs v rest false t p q = simp (grows v b, p, other_stays bs)

    pub read : (bs : List ℕ) (v : ℕ) → v ≤ limit → grown (held v) bs ≡ whole v bs
    read [] v h = simp (le-leb v limit h)
    read (b ∷ bs) v h = more b bs v (read bs) (ok b) (leb (v * base + (b - z)) limit) refl refl

-- ---- the three kinds

pushed : (held : ℕ → Token) (d t : Bool) (w : ℕ)
    → held_as held (cond d (cond t (Some w) None) None) ≡ cond d (cond t (held w) Token.Other) Token.Other
pushed held true true w = refl
pushed held true false w = refl
pushed held false t w = refl

decimals : (bs : List ℕ) → grown (Token.Number 0) bs ≡ number Token.Number bs
decimals bs =
    read digit 10 48 number_max Token.Number (λ v x. omega arith) (λ v b. pushed Token.Number (digit b) (leb (v * 10 + (b - 48)) number_max) (v * 10 + (b - 48))) bs 0 (omega arith)

negatives : (bs : List ℕ) → grown (Token.Negative 0) bs ≡ number Token.Negative bs
negatives bs =
    read digit 10 48 number_max Token.Negative (λ v x. omega arith) (λ v b. pushed Token.Negative (digit b) (leb (v * 10 + (b - 48)) number_max) (v * 10 + (b - 48))) bs 0 (omega arith)

letters : (bs : List ℕ) → grown (Token.Name 0) bs ≡ name bs
letters bs = read letter 64 96 name_max Token.Name (λ v x. omega arith) (λ v b. refl) bs 0 (omega arith)

-- ---- a whole word

behind_dash : (bs : List ℕ) → grown Token.Dash bs ≡ dashed bs
behind_dash [] = refl
behind_dash (b ∷ bs) = negatives (b ∷ bs)

-- a digit alone is always within the limit
digit_fits : (b : ℕ) → digit b ≡ true → leb (0 * 10 + (b - 48)) number_max ≡ true
digit_fits b e = grind (arith, nat_tests)

by_first : (b : ℕ) (bs : List ℕ) (dash d : Bool) → eqb b 45 ≡ dash → digit b ≡ d → grown (begin_of b) bs ≡ token_of (b ∷ bs)
by_first b bs true d p q = simp p (behind_dash bs)
by_first b bs false true p q =
    let begins : begun b (appended_of 0 b) ≡ grow_of (Token.Number 0) b = simp (q, digit_fits b q) in
    simp p (ap (λ (k : Token). grown k bs) begins ∙ decimals (b ∷ bs) ∙ simp q)
by_first b bs false false p q =
    let begins : begun b (appended_of 0 b) ≡ grow_of (Token.Name 0) b = simp q in
    simp p (ap (λ (k : Token). grown k bs) begins ∙ letters (b ∷ bs) ∙ simp q)

pub reads_words : ReadsWords
reads_words b bs = by_first b bs (eqb b 45) (digit b) refl refl
