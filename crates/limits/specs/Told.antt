-- Document 01, "What the caller hears": where an answer is an enum, each of its cases has a number and values. Every crate with such an answer
-- says here what is told of it (`model`, `timer`, `rto`), and promises, replies and tapes are read from that.
use Rattle.std.specs.Prelude.{ℕ, Bool, true, false, List, [], ◌∷◌, get_or, Some, None}
use Rattle.limits.specs.Flags.{bit_of, is_set}
use Rattle.limits.specs.Moments.{Moment, present, time_of}
use Rattle.limits.specs.Refusals.{done}

-- 01's number of an answer, and the values of its case in their order; a flag is 1 for yes and 0 for no
pub record Told : Type 0 where
  pub number : ℕ
  pub values : List ℕ

-- done, with these values
abbrev pub tells : List ℕ → Told
tells vs = record { number = done; values = vs }

-- refused: the number, and no value
abbrev pub refusing : ℕ → Told
refusing n = record { number = n; values = [] }

-- yes or no
abbrev pub tells_flag : Bool → Told
tells_flag b = tells (bit_of b ∷ [])

-- one number
abbrev pub tells_number : ℕ → Told
tells_number x = tells (x ∷ [])

-- a moment that may be missing: whether there is one, and its time, with the values behind it
abbrev pub moment_then : Moment → List ℕ → List ℕ
moment_then m rest = bit_of (present m) ∷ time_of m ∷ rest

-- a moment as the whole answer: its time, or nothing
abbrev pub tells_moment : Moment → Told
tells_moment None = tells []
tells_moment (Some t) = tells_number t

-- ---- what was told, read by its places

-- the value at a place, and 0 where the case has none there
abbrev pub value_at : ℕ → Told → ℕ
value_at i t = get_or t.values i 0

-- the flag at a place, and no where the case has none there
abbrev pub flag_at : ℕ → Told → Bool
flag_at i t = is_set (value_at i t)

abbrev is_given : List ℕ → Bool
is_given [] = false
is_given (v ∷ vs) = true

-- whether the case has values
abbrev pub given : Told → Bool
given t = is_given t.values
