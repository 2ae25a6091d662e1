-- A line that is read byte by byte is the call that it is as a whole. The line holds its whole words in five places, and how many there
-- are; `counted` and `placed` give those of a list of words, and the rest is an induction over the bytes, between words and within one.
use Rattle.std.specs.Prelude.{◌≡◌, refl, ℕ, Bool, true, false, cond, List, [], ◌∷◌, ◌++◌, map, eqb, Some, None}
use Rattle.std.proofs.Common.{sym, ap, ◌∙◌, append_assoc, append-nil}
use Rattle.words.specs.declared.Token.{Token}
use Rattle.words.specs.Tokens.{token_of, begin_of, grow_of, grown}
use Rattle.words.proofs.Reading.{reads_words}
use Rattle.script.specs.Table.{table, row_of}
use Rattle.script.specs.Commands.{command_of, command_in}
use Rattle.script.specs.declared.Line.{Line}
use Rattle.script.specs.Meaning.{blank, words_from}
use Rattle.script.specs.Lines.{start_of, marked_of, ended_of, longer_of, feed_of, finish_of, fed_of}
use Rattle.script.specs.Claims.{ReadsLines}

-- how many words are whole, and their places
counted : List Token → ℕ
counted [] = 0
counted (a ∷ []) = 1
counted (a ∷ b ∷ []) = 2
counted (a ∷ b ∷ c ∷ []) = 3
counted (a ∷ b ∷ c ∷ d ∷ []) = 4
counted (a ∷ b ∷ c ∷ d ∷ e ∷ []) = 5
counted (a ∷ b ∷ c ∷ d ∷ e ∷ f ∷ more) = 6

placed : List Token → List Token
placed [] = Token.Other ∷ Token.Other ∷ Token.Other ∷ Token.Other ∷ Token.Other ∷ []
placed (a ∷ []) = a ∷ Token.Other ∷ Token.Other ∷ Token.Other ∷ Token.Other ∷ []
placed (a ∷ b ∷ []) = a ∷ b ∷ Token.Other ∷ Token.Other ∷ Token.Other ∷ []
placed (a ∷ b ∷ c ∷ []) = a ∷ b ∷ c ∷ Token.Other ∷ Token.Other ∷ []
placed (a ∷ b ∷ c ∷ d ∷ []) = a ∷ b ∷ c ∷ d ∷ Token.Other ∷ []
placed (a ∷ b ∷ c ∷ d ∷ e ∷ []) = a ∷ b ∷ c ∷ d ∷ e ∷ []
placed (a ∷ b ∷ c ∷ d ∷ e ∷ f ∷ more) = a ∷ b ∷ c ∷ d ∷ e ∷ []

-- a line between words, one in a comment, and one within a word
between : List Token → Line
between ts = record { count = counted ts; words = placed ts; current = None; comment = false }

beyond : List Token → Line
beyond ts = record { count = counted ts; words = placed ts; current = None; comment = true }

within : List Token → Token → Line
within ts k = record { count = counted ts; words = placed ts; current = Some k; comment = false }

ends : (ts : List Token) (k : Token) → ended_of (within ts k) ≡ between (ts ++ (k ∷ []))
unfolding between within counted placed
ends [] k = refl
ends (a ∷ []) k = refl
ends (a ∷ b ∷ []) k = refl
ends (a ∷ b ∷ c ∷ []) k = refl
ends (a ∷ b ∷ c ∷ d ∷ []) k = refl
ends (a ∷ b ∷ c ∷ d ∷ e ∷ []) k = refl
ends (a ∷ b ∷ c ∷ d ∷ e ∷ f ∷ more) k = refl

calls : (ts : List Token) → command_in (counted ts) (placed ts) ≡ command_of ts
unfolding row_of table counted placed
calls [] = refl
calls (a ∷ []) = refl
calls (a ∷ b ∷ []) = refl
calls (a ∷ b ∷ c ∷ []) = refl
calls (a ∷ b ∷ c ∷ d ∷ []) = refl
calls (a ∷ b ∷ c ∷ d ∷ e ∷ []) = refl
calls (a ∷ b ∷ c ∷ d ∷ e ∷ f ∷ more) = refl

finishes : (ts : List Token) → finish_of (between ts) ≡ command_of ts
unfolding between
finishes ts = calls ts

finishes_beyond : (ts : List Token) → finish_of (beyond ts) ≡ command_of ts
unfolding beyond
finishes_beyond ts = calls ts

-- a finish ends the word that is open
finishes_word : (ts : List Token) (k : Token) → finish_of (within ts k) ≡ command_of (ts ++ (k ∷ []))
unfolding between
finishes_word ts k = ap (λ (l : Line). command_in l.count l.words) (ends ts k) ∙ calls (ts ++ (k ∷ []))

-- ---- a comment

in_comment : (bs : List ℕ) (ts : List Token) → finish_of (fed_of (beyond ts) bs) ≡ command_of ts
unfolding beyond
in_comment [] ts = finishes_beyond ts
in_comment (b ∷ bs) ts = in_comment bs ts

marks : (ts : List Token) → marked_of (between ts) ≡ beyond ts
unfolding between beyond
marks ts = refl

-- ---- one byte

nothing_ends : (ts : List Token) → ended_of (between ts) ≡ between ts
unfolding between
nothing_ends ts = refl

begins : (ts : List Token) (b : ℕ) → longer_of (between ts) b ≡ within ts (token_of (b ∷ []))
unfolding between within
begins ts b = ap (λ (k : Token). within ts k) (reads_words b [])

grown_by : (k : Token) (bs : List ℕ) (b : ℕ) → grown k (bs ++ (b ∷ [])) ≡ grow_of (grown k bs) b
grown_by k [] b = refl
grown_by k (x ∷ xs) b = grown_by (grow_of k x) xs b

grows : (ts : List Token) (x : ℕ) (xs : List ℕ) (b : ℕ) → longer_of (within ts (token_of (x ∷ xs))) b ≡ within ts (token_of (x ∷ (xs ++ (b ∷ []))))
unfolding within
grows ts x xs b =
    ap (λ (k : Token). within ts k)
    (ap (λ (k : Token). grow_of k b) (sym (reads_words x xs)) ∙ sym (grown_by (begin_of x) xs b) ∙ reads_words x (xs ++ (b ∷ [])))

-- ---- all the bytes

abbrev Between : List ℕ → List Token → Type 0
Between bs ts = finish_of (fed_of (between ts) bs) ≡ command_of (ts ++ map token_of (words_from [] bs))

abbrev Within : List ℕ → List Token → ℕ → List ℕ → Type 0
Within bs ts x xs = finish_of (fed_of (within ts (token_of (x ∷ xs))) bs) ≡ command_of (ts ++ map token_of (words_from (x ∷ xs) bs))

record Both (bs : List ℕ) : Type 0 where
  outside : (ts : List Token) → Between bs ts
  inside : (ts : List Token) (x : ℕ) (xs : List ℕ) → Within bs ts x xs

fed_on : (bs : List ℕ) {l m : Line} → l ≡ m → finish_of (fed_of l bs) ≡ finish_of (fed_of m bs)
fed_on bs e = ap (λ (l : Line). finish_of (fed_of l bs)) e

-- what a byte does to a line in which no comment has begun
feeds : (l : Line) (b : ℕ) (c t : Bool) → l.comment ≡ false → eqb b 35 ≡ c → blank b ≡ t → feed_of l b ≡ cond c (marked_of (ended_of l)) (cond t (ended_of l) (longer_of l b))
feeds l b c t o p q = simp (o, p, q)

no_comment : (ts : List Token) → (between ts).comment ≡ false
unfolding between
no_comment ts = refl

no_comment_within : (ts : List Token) (k : Token) → (within ts k).comment ≡ false
unfolding within
no_comment_within ts k = refl

-- one byte more, by whether a comment begins and whether it is a blank
module _ (b : ℕ) (bs : List ℕ) (rest : Both bs) where
  outside_more : (ts : List Token) (c t : Bool) → eqb b 35 ≡ c → blank b ≡ t → Between (b ∷ bs) ts
  outside_more ts true t p q =
      fed_on bs (feeds (between ts) b true t (no_comment ts) p q ∙ ap marked_of (nothing_ends ts) ∙ marks ts) ∙ in_comment bs ts ∙ simp (p, append-nil)
  outside_more ts false true p q =
      fed_on bs (feeds (between ts) b false true (no_comment ts) p q ∙ nothing_ends ts) ∙ rest.outside ts ∙ simp (p, q)
  outside_more ts false false p q =
      fed_on bs (feeds (between ts) b false false (no_comment ts) p q ∙ begins ts b) ∙ rest.inside ts b [] ∙ simp (p, q)

  inside_more : (ts : List Token) (x : ℕ) (xs : List ℕ) (c t : Bool) → eqb b 35 ≡ c → blank b ≡ t → Within (b ∷ bs) ts x xs
  inside_more ts x xs true t p q =
      let k = token_of (x ∷ xs) in
      fed_on bs (feeds (within ts k) b true t (no_comment_within ts k) p q ∙ ap marked_of (ends ts k) ∙ marks (ts ++ (k ∷ [])))
      ∙ in_comment bs (ts ++ (k ∷ [])) ∙ simp p
  inside_more ts x xs false true p q =
      let k = token_of (x ∷ xs) in
      fed_on bs (feeds (within ts k) b false true (no_comment_within ts k) p q ∙ ends ts k)
      ∙ rest.outside (ts ++ (k ∷ []))
      ∙ ap command_of (append_assoc ts (k ∷ []) (map token_of (words_from [] bs)))
      ∙ simp (p, q)
  inside_more ts x xs false false p q =
      let k = token_of (x ∷ xs) in
      fed_on bs (feeds (within ts k) b false false (no_comment_within ts k) p q ∙ grows ts x xs b)
      ∙ rest.inside ts x (xs ++ (b ∷ [])) ∙ simp (p, q)

both : (bs : List ℕ) → Both bs
both [] = record { outside = λ ts. finishes ts ∙ ap command_of (sym (append-nil ts)); inside = λ ts x xs. finishes_word ts (token_of (x ∷ xs)) }
both (b ∷ bs) =
    record {
      outside = λ ts. outside_more b bs (both bs) ts (eqb b 35) (blank b) refl refl;
      inside = λ ts x xs. inside_more b bs (both bs) ts x xs (eqb b 35) (blank b) refl refl;
    }

started : start_of ≡ between []
unfolding between counted placed
started = refl

pub reads_lines : ReadsLines
reads_lines line = fed_on line started ∙ (both line).outside []
