-- A line that is read byte by byte.
use Rattle.std.specs.Prelude.{ℕ, ◌+◌, Bool, true, false, cond, List, [], ◌∷◌, set, eqb, ltb, Option, Some, None}
use Rattle.words.specs.declared.Token.{Token}
use Rattle.words.specs.Tokens.{begin_of, grow_of}
use Rattle.script.specs.declared.commands.Command.{Command}
use Rattle.script.specs.Commands.{command_in}
use Rattle.script.specs.declared.Line.{Line}
use Rattle.script.specs.Meaning as Meaning

-- nothing is read
abbrev pub start_of : Line
start_of =
    record {
      count = 0;
      words = Token.Other ∷ Token.Other ∷ Token.Other ∷ Token.Other ∷ Token.Other ∷ [];
      current = None;
      comment = false;
    }

abbrev pub blank : ℕ → Bool
blank b = Meaning.blank b

-- one word more, and six where there are more
abbrev pub next_of : ℕ → ℕ
next_of n = cond (ltb n 6) (n + 1) 6

-- a word that is open is whole
abbrev pub stored_of : Line → Option Token → Line
stored_of l None = l
stored_of l (Some k) = record l { count = next_of l.count; words = set l.words l.count k; current = None }

abbrev pub ended_of : Line → Line
ended_of l = stored_of l l.current

-- in a comment
abbrev pub marked_of : Line → Line
marked_of l = record l { comment = true }

abbrev pub grown_of : Option Token → ℕ → Token
grown_of None b = begin_of b
grown_of (Some k) b = grow_of k b

abbrev pub longer_of : Line → ℕ → Line
longer_of l b = record l { current = Some (grown_of l.current b) }

-- one byte more: nothing in a comment, the end of a word, or a word's byte
abbrev pub feed_of : Line → ℕ → Line
feed_of l b =
    cond l.comment l
    (cond (eqb b 35) (marked_of (ended_of l)) (cond (blank b) (ended_of l) (longer_of l b)))

abbrev pub finish_of : Line → Command
finish_of l = command_in (ended_of l).count (ended_of l).words

-- all the bytes of a line, one behind the other
abbrev pub fed_of : Line → List ℕ → Line
fed_of l [] = l
fed_of l (b ∷ bs) = fed_of (feed_of l b) bs
