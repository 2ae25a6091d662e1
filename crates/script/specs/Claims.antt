-- What is proved of the reading of lines, and of the table.
use Rattle.std.specs.Prelude.{◌≡◌, Bool, true, ◌&&◌, List, [], ◌∷◌, ℕ, ◌%◌, ◌^◌, ◌≤◌, is_none}
use Rattle.script.specs.declared.table.Row.{Row}
use Rattle.script.specs.declared.table.Kind.TheVariants.{Middle, Short, Octet, Timer, Signed}
use Rattle.script.specs.Table.{table, found}
use Rattle.script.specs.Arguments.{most_of}
use Rattle.script.specs.Meaning.{line_means}
use Rattle.script.specs.Lines.{start_of, fed_of, finish_of}

-- whatever the bytes of a line are: read one behind the other from the start, and finished, they are the call that the line is
abbrev pub ReadsLines : Type 0
ReadsLines = (line : List ℕ) → finish_of (fed_of start_of line) ≡ line_means line

-- no row hides another: no two have the same name and the same number of words
abbrev apart : List Row → Bool
apart [] = true
apart (row ∷ rows) = is_none (found rows row.0 row.1) && apart rows

abbrev pub RowsApart : Type 0
RowsApart = apart table ≡ true

-- a number of a kind is what the call takes it for: only a number that is none would be another modulo what the call has room for
abbrev pub KeepsNumbers : Type 0
KeepsNumbers =
    (n : ℕ)
    → (n ≤ most_of Middle → n % 2 ^ 32 ≡ n)
    × (n ≤ most_of Short → n % 2 ^ 16 ≡ n)
    × (n ≤ most_of Octet → n % 2 ^ 8 ≡ n)
    × (n ≤ most_of Timer → n % 6 ≡ n)
    × (n ≤ most_of Signed → n % 2 ^ 63 ≡ n)
