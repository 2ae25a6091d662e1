-- Moments of the clock that may be missing.
use Rattle.std.specs.Prelude.{ℕ, min, ◌≡◌, refl, Bool, false, leb, ltb, Option, Some, None, is_some}
use Rattle.std.specs.Option.{unwrap_or}
use Rattle.std.specs.Bool.{then_some}

-- a time of the clock that may be missing
abbrev pub Moment : Type 0
Moment = Option ℕ

-- now is at or after it
abbrev pub passed : (now : ℕ) → Moment → Bool
passed now None = false
passed now (Some d) = leb d now

-- it is at or after now
abbrev pub ahead : (now : ℕ) → Moment → Bool
ahead now None = false
ahead now (Some d) = leb now d

-- it is past a limit
abbrev pub beyond : (limit : ℕ) → Moment → Bool
beyond limit None = false
beyond limit (Some d) = ltb limit d

-- the smaller of two, where a missing one is none
abbrev pub earlier : Moment → Moment → Moment
earlier None b = b
earlier (Some x) None = Some x
earlier (Some x) (Some y) = Some (min x y)

-- ---- a moment as a flag and a number

-- whether there is one
abbrev pub present : Moment → Bool
present m = is_some m

-- its time, and 0 where there is none
abbrev pub time_of : Moment → ℕ
time_of m = unwrap_or m 0

abbrev pub moment_of : (is : Bool) → (time : ℕ) → Moment
moment_of b t = then_some b t

-- every moment comes back as it was
pub moment_back : (m : Moment) → moment_of (present m) (time_of m) ≡ m
moment_back None = refl
moment_back (Some t) = refl
