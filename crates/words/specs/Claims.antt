-- What is proved of the reading of words.
use Rattle.std.specs.Prelude.{◌≡◌, true, List, ◌∷◌, ℕ}
use Rattle.words.specs.Figures.{all, letter, code}
use Rattle.words.specs.Tokens.{token_of, begin_of, grown}

-- read byte by byte a word is what it is as a whole, whatever its bytes are
abbrev pub ReadsWords : Type 0
ReadsWords = (b : ℕ) (bs : List ℕ) → grown (begin_of b) bs ≡ token_of (b ∷ bs)

-- two names of the same number are the same name
abbrev pub NamesDiffer : Type 0
NamesDiffer = (v w : List ℕ) → all letter v ≡ true → all letter w ≡ true → code v ≡ code w → v ≡ w
