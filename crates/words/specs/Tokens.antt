-- What a word is: a name, a number, a number below zero, a dash, or none of them.
use Rattle.std.specs.Prelude.{ℕ, ◌+◌, ◌*◌, ◌-◌, cond, List, [], ◌∷◌, leb, eqb, Option, Some, None}
use Rattle.words.specs.declared.Token.{Token}
use Rattle.words.specs.Figures.{all, digit, letter, value, code, number_max, name_max}

-- digits alone, and no larger than a number may be
abbrev pub number : (ℕ → Token) → List ℕ → Token
number held bs = cond (all digit bs) (cond (leb (value bs) number_max) (held (value bs)) Token.Other) Token.Other

-- letters alone, and at most ten
abbrev pub name : List ℕ → Token
name bs = cond (all letter bs) (cond (leb (code bs) name_max) (Token.Name (code bs)) Token.Other) Token.Other

-- behind a dash
abbrev pub dashed : List ℕ → Token
dashed [] = Token.Dash
dashed (b ∷ bs) = number Token.Negative (b ∷ bs)

abbrev pub token_of : List ℕ → Token
token_of [] = Token.Other
token_of (b ∷ bs) = cond (eqb b 45) (dashed bs) (cond (digit b) (number Token.Number (b ∷ bs)) (name (b ∷ bs)))

-- the number of a name, and 0, which no name has, for any other word
unfoldable pub code_of : Token → ℕ
code_of (Token.Name n) = n
code_of (Token.Number n) = 0
code_of Token.Dash = 0
code_of (Token.Negative n) = 0
code_of Token.Other = 0

-- ---- byte by byte

abbrev pub appended_of : ℕ → ℕ → Option ℕ
appended_of v b = cond (digit b) (cond (leb (v * 10 + (b - 48)) number_max) (Some (v * 10 + (b - 48))) None) None

abbrev pub lettered_of : ℕ → ℕ → Token
lettered_of c b = cond (letter b) (cond (leb (c * 64 + (b - 96)) name_max) (Token.Name (c * 64 + (b - 96))) Token.Other) Token.Other

abbrev pub held_as : (ℕ → Token) → Option ℕ → Token
held_as held (Some v) = held v
held_as held None = Token.Other

-- a digit is a number, and what is none may be a name
abbrev pub begun : ℕ → Option ℕ → Token
begun b (Some v) = Token.Number v
begun b None = lettered_of 0 b

-- a word of one byte, and a word with one byte more
abbrev pub begin_of : ℕ → Token
begin_of b = cond (eqb b 45) Token.Dash (begun b (appended_of 0 b))

abbrev pub grow_of : Token → ℕ → Token
grow_of (Token.Name c) b = lettered_of c b
grow_of (Token.Number v) b = held_as Token.Number (appended_of v b)
grow_of Token.Dash b = held_as Token.Negative (appended_of 0 b)
grow_of (Token.Negative v) b = held_as Token.Negative (appended_of v b)
grow_of Token.Other b = Token.Other

abbrev pub grown : Token → List ℕ → Token
grown k [] = k
grown k (b ∷ bs) = grown (grow_of k b) bs
