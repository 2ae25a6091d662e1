-- What a word is as an argument of a kind, and the words of a call that a line's arguments are.
use Rattle.std.specs.Prelude.{ℕ, ◌-◌, Bool, true, false, cond, List, get_or, eqb, leb, Option, Some, None, option_map, option_and_then}
use Rattle.limits.specs.Flags.{bit_of}
use Rattle.words.specs.declared.Token.{Token}
use Rattle.words.specs.Tokens.{code_of}
use Rattle.script.specs.declared.table.Kind.{Kind}
use Rattle.script.specs.declared.table.Kind.TheVariants.{Long, Middle, Short, Octet, Flag, Timer, Parts, Signed, Optional}
use Rattle.script.specs.declared.table.Means.{Means}
use Rattle.script.specs.declared.table.Row.{Row}
use Rattle.script.specs.declared.arguments.Argument.{Argument}
use Rattle.script.specs.declared.arguments.Words.{Words}
use Rattle.script.specs.Table.{row_of}

-- an argument: its value, and a mark, where it is below zero or where there is none; a word that is no argument of its kind is none
abbrev pub given : (value : ℕ) → (marked : Bool) → Option Argument
given value marked = Some (record { value = value; marked = marked })

-- the largest number of a kind: 64, 32, 16 bits, 8 bits, a flag's 8 bits, the last of six timers; 63 bits with a sign, 64 bits or a dash
abbrev pub most_of : Kind → ℕ
most_of Long = 18446744073709551615
most_of Middle = 4294967295
most_of Short = 65535
most_of Octet = 255
most_of Flag = 255
most_of Timer = 5
most_of Parts = 0
most_of Signed = 9223372036854775807
most_of Optional = 18446744073709551615

-- of a flag 0 is no, and every other number is yes
abbrev pub valued : Kind → ℕ → ℕ
valued Flag n = cond (eqb n 0) 0 1
valued kind n = n

abbrev pub number_of : Kind → (n : ℕ) → Option Argument
number_of kind n = cond (leb n (most_of kind)) (given (valued kind n) false) None

-- a dash: there is none
abbrev pub dash_of : Kind → Option Argument
dash_of Optional = given 0 true
dash_of kind = None

-- below zero, told by how much below -1; the least is one further from zero than the largest
abbrev pub below_of : Kind → (n : ℕ) → Option Argument
below_of Signed n = cond (eqb n 0) (given 0 false) (cond (leb n 9223372036854775808) (given (n - 1) true) None)
below_of kind n = None

abbrev pub figure_of : Kind → Token → Option Argument
figure_of kind (Token.Name n) = None
figure_of kind (Token.Number n) = number_of kind n
figure_of kind Token.Dash = dash_of kind
figure_of kind (Token.Negative n) = below_of kind n
figure_of kind Token.Other = None

-- letters for parts of a state: their sum
abbrev pub sum_of : Means → Option Argument
sum_of (Means.Part n) = given n false
sum_of (Means.Sender n) = None
sum_of (Means.Own call) = None
sum_of (Means.Clock call) = None
sum_of (Means.Estimate call) = None

abbrev pub parts_of : (name : ℕ) → Option Argument
parts_of name = option_and_then (λ (row : Row). sum_of row.3) (row_of name 0)

abbrev pub argument_of : Kind → Token → Option Argument
argument_of Parts word = parts_of (code_of word)
argument_of kind word = figure_of kind word

-- ---- the words of a call

-- none yet
abbrev pub empty : Words
empty = (0, 0, 0, 0, 0)

-- one more in front
abbrev pub put : ℕ → Words → Words
put x rest = (x, rest.0, rest.1, rest.2, rest.3)

-- an argument is one word, or two where it may be marked: the value, and its mark
abbrev pub joined : Kind → Argument → Words → Words
joined Signed x rest = put x.value (put (bit_of x.marked) rest)
joined Optional x rest = put x.value (put (bit_of x.marked) rest)
joined kind x rest = put x.value rest

abbrev pub before_of : Option Kind → Token → Words → Option Words
before_of None word rest = Some rest
before_of (Some kind) word rest = option_map (λ (x : Argument). joined kind x rest) (argument_of kind word)

abbrev pub kind_at : List (Option Kind) → ℕ → Option Kind
kind_at kinds i = get_or kinds i None

abbrev pub word_at : List Token → ℕ → Token
word_at words i = get_or words i Token.Other

-- the arguments of a line, one behind the other; none at all, where a word is no argument of its kind
abbrev pub words_of : List (Option Kind) → List Token → Option Words
words_of kinds words =
    option_and_then (before_of (kind_at kinds 0) (word_at words 1))
    (option_and_then (before_of (kind_at kinds 1) (word_at words 2))
    (option_and_then (before_of (kind_at kinds 2) (word_at words 3))
    (before_of (kind_at kinds 3) (word_at words 4) empty)))
