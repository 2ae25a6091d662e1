-- Numbers written in figures: the decimal digits in base 10, and the letters of a name in base 64.
use Rattle.std.specs.Prelude.{ℕ, ◌+◌, ◌*◌, ◌-◌, Bool, true, ◌&&◌, List, [], ◌∷◌, leb}

-- every byte is of the kind
abbrev pub all : (ℕ → Bool) → List ℕ → Bool
all ok [] = true
all ok (b ∷ bs) = ok b && all ok bs

-- the value of figures in a base, where the byte `zero` is worth nothing, behind figures that are worth n
abbrev pub behind : (base zero n : ℕ) → List ℕ → ℕ
behind base z n [] = n
behind base z n (b ∷ bs) = behind base z (n * base + (b - z)) bs

-- the digits 0 to 9, and the letters a to z, which are worth 1 to 26
abbrev pub digit : ℕ → Bool
digit b = leb 48 b && leb b 57

abbrev pub letter : ℕ → Bool
letter b = leb 97 b && leb b 122

-- the value of a number's digits
abbrev pub value : List ℕ → ℕ
value bs = behind 10 48 0 bs

-- the number that stands for a name: two octal digits a letter
abbrev pub code : List ℕ → ℕ
code bs = behind 64 96 0 bs

-- the largest number of a script, 2 ^ 64 - 1, and the last of the names of ten letters, of which no two have the same number
abbrev pub number_max : ℕ
number_max = 18446744073709551615

abbrev pub name_max : ℕ
name_max = 1152921504606846975
