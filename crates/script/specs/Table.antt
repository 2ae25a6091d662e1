-- The script's table: the name of a line, the kinds of its arguments, and which call it is. specs/Arguments says what a word of a kind may be,
-- and specs/Commands which call it is of words: one of the sender's is a row of the coded calls.
use Rattle.std.specs.Prelude.{ℕ, Bool, cond, ◌&&◌, List, [], ◌∷◌, eqb, Option, Some, None}
use Prim.Native.String.{String}
use Prim.Native.String as Text
use Prim.Native.Char as Char
use Rattle.words.specs.Figures.{code}
use Rattle.script.specs.declared.table.Kind.{Kind}
use Rattle.script.specs.declared.table.Kind.TheVariants.{Long, Middle, Short, Octet, Flag, Timer, Parts, Signed, Optional}
use Rattle.script.specs.declared.table.Own.{Own}
use Rattle.script.specs.declared.table.Clock.{Clock}
use Rattle.script.specs.declared.table.Estimate.{Estimate}
use Rattle.script.specs.declared.table.Means.{Means}
use Rattle.script.specs.declared.table.Row.{Row}

-- ---- a line of the table: the name, how many words a line has with it, the kinds of the others, the call

-- the bytes of a name
abbrev pub letters : String → List ℕ
letters Text.[] = []
letters (Text.◌∷◌ b name) = Char.code b ∷ letters name

abbrev pub alone : String → Means → Row
alone name call = (code (letters name), 1, None ∷ None ∷ None ∷ None ∷ [], call)

abbrev pub one : String → Kind → Means → Row
one name k1 call = (code (letters name), 2, Some k1 ∷ None ∷ None ∷ None ∷ [], call)

abbrev pub two : String → (k1 k2 : Kind) → Means → Row
two name k1 k2 call = (code (letters name), 3, Some k1 ∷ Some k2 ∷ None ∷ None ∷ [], call)

abbrev pub three : String → (k1 k2 k3 : Kind) → Means → Row
three name k1 k2 k3 call = (code (letters name), 4, Some k1 ∷ Some k2 ∷ Some k3 ∷ None ∷ [], call)

abbrev pub four : String → (k1 k2 k3 k4 : Kind) → Means → Row
four name k1 k2 k3 k4 call = (code (letters name), 5, Some k1 ∷ Some k2 ∷ Some k3 ∷ Some k4 ∷ [], call)

-- the word of a `state` line, which is no line's name: 1 for the sender, 2 for the timers, 4 for the estimator
abbrev pub part : String → ℕ → Row
part name sum = (code (letters name), 0, None ∷ None ∷ None ∷ None ∷ [], Means.Part sum)

-- every line that is a call
unfoldable pub table : List Row
table =
    two "open" Short Middle (Means.Sender 0)
    ∷ four "rel" Short Flag Octet Middle (Means.Sender 1)
    ∷ two "low" Short Long (Means.Sender 2)
    ∷ two "high" Short Long (Means.Sender 3)
    ∷ four "write" Short Middle Long Long (Means.Sender 4)
    ∷ two "released" Short Signed (Means.Sender 5)
    ∷ one "lifetimes" Long (Means.Sender 6)
    ∷ one "send" Long (Means.Sender 7)
    ∷ one "expire" Long (Means.Sender 8)
    ∷ one "tail" Long (Means.Sender 9)
    ∷ one "abandon" Middle (Means.Sender 10)
    ∷ one "ack" Middle (Means.Sender 11)
    ∷ one "pop" Middle (Means.Sender 12)
    ∷ alone "markall" (Means.Sender 13)
    ∷ one "get" Middle (Means.Sender 14)
    ∷ one "isab" Middle (Means.Sender 15)
    ∷ alone "peek" (Means.Sender 16)
    ∷ alone "nextmsg" (Means.Sender 17)
    ∷ alone "nexttsn" (Means.Sender 18)
    ∷ alone "earliest" (Means.Sender 23)
    ∷ one "haspend" Short (Means.Sender 24)
    ∷ one "has" Short (Means.Sender 25)
    ∷ two "sender" Middle Long (Means.Own Own.Sender)
    ∷ one "expired" Long (Means.Own Own.List)
    ∷ two "expired" Long Long (Means.Own Own.ListWithin)
    ∷ alone "counts" (Means.Own Own.Counts)
    ∷ one "stream" Short (Means.Own Own.Stream)
    ∷ two "setbuf" Short Middle (Means.Own Own.SetBuffered)
    ∷ alone "state" (Means.Own Own.State)
    ∷ one "state" Parts (Means.Own Own.Parts)
    ∷ one "wipe" Octet (Means.Own Own.Wipe)
    ∷ three "put" Long Long Long (Means.Own Own.Put)
    ∷ two "look" Long Long (Means.Own Own.Look)
    ∷ one "sack" Long (Means.Own Own.Sack)
    ∷ one "fill" Octet (Means.Own Own.Fill)
    ∷ one "lend" Long (Means.Own Own.Lend)
    ∷ two "read" Long Long (Means.Own Own.Read)
    ∷ two "data" Middle Long (Means.Own Own.Data)
    ∷ three "timers" Optional Optional Long (Means.Clock Clock.Make)
    ∷ alone "tnext" (Means.Clock Clock.NextTimeout)
    ∷ two "tset" Timer Optional (Means.Clock Clock.Set)
    ∷ one "tget" Timer (Means.Clock Clock.Get)
    ∷ three "tstart" Timer Long Long (Means.Clock Clock.Start)
    ∷ three "trestart" Timer Long Long (Means.Clock Clock.Restart)
    ∷ one "tstop" Timer (Means.Clock Clock.Stop)
    ∷ one "treset" Timer (Means.Clock Clock.Reset)
    ∷ one "tsuppress" Timer (Means.Clock Clock.Suppress)
    ∷ two "texpired" Timer Long (Means.Clock Clock.IsExpired)
    ∷ two "setcount" Timer Middle (Means.Clock Clock.SetCount)
    ∷ three "rto" Long Long Long (Means.Estimate Estimate.Make)
    ∷ one "measure" Long (Means.Estimate Estimate.Measure)
    ∷ alone "rreset" (Means.Estimate Estimate.Reset)
    ∷ two "setrto" Long Flag (Means.Estimate Estimate.Set)
    ∷ alone "getrto" (Means.Estimate Estimate.Get)
    ∷ part "s" 1
    ∷ part "t" 2
    ∷ part "r" 4
    ∷ part "st" 3
    ∷ part "sr" 5
    ∷ part "tr" 6
    ∷ part "str" 7
    ∷ []

-- ---- looking a line up

-- it has this name, and so many words
abbrev pub named : Row → (name words : ℕ) → Bool
named row name words = eqb row.1 words && eqb row.0 name

-- the first row that is so named
abbrev pub found : List Row → (name words : ℕ) → Option Row
found [] name words = None
found (row ∷ rows) name words = cond (named row name words) (Some row) (found rows name words)

unfoldable pub row_of : (name words : ℕ) → Option Row
row_of name words = found table name words
