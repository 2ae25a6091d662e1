-- Which call a line is: what the reading of a line is held to.
use Rattle.std.specs.Prelude.{ℕ, Bool, cond, ◌||◌, List, [], ◌∷◌, ◌++◌, map, eqb}
use Rattle.words.specs.Tokens.{token_of}
use Rattle.script.specs.declared.commands.Command.{Command}
use Rattle.script.specs.Commands.{command_of}

-- a space, a tab, a carriage return
abbrev pub blank : ℕ → Bool
blank b = eqb b 32 || (eqb b 9 || eqb b 13)

-- a word that has bytes
abbrev pub whole : List ℕ → List (List ℕ)
whole [] = []
whole (b ∷ bs) = (b ∷ bs) ∷ []

-- the words of a line, up to its comment, which begins with a `#`: the longest runs of bytes that are no blanks. `word` is what has been
-- read of the word that is under way.
abbrev pub words_from : (word line : List ℕ) → List (List ℕ)
words_from word [] = whole word
words_from word (b ∷ bs) =
    cond (eqb b 35) (whole word)
    (cond (blank b) (whole word ++ words_from [] bs) (words_from (word ++ (b ∷ [])) bs))

abbrev pub words_of : List ℕ → List (List ℕ)
words_of line = words_from [] line

-- the call of a line
abbrev pub line_means : List ℕ → Command
line_means line = command_of (map token_of (words_of line))
