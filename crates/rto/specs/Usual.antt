-- Which measurements are usual: those that `rto_cells` makes by a quicker way, to the same numbers.
use Rattle.std.specs.Prelude.{◌≡◌, ℕ, Bool, true, false, cond, pos, negsuc, Float}
use Rattle.std.specs.Float.{fin}
use Rattle.std.specs.Float.Ieee.{le}
use Rattle.rto.specs.declared.RtoManager.{RtoManager}
use Rattle.rto.specs.Rto.{counts_first, beyond}

-- x is a number from 1 / 2 ^ (i + 1) to 2 ^ k: the comparisons of a NaN are false
pub record Within (i k : ℕ) (x : Float) : Type 0 where
  pub least : le (fin false 1 (negsuc i)) x ≡ true
  pub most : le x (fin false 1 (pos k)) ≡ true

-- a usual rttvar, from 1/8 to 2 ^ 32
abbrev pub Usual : Float → Type 0
Usual v = Within 2 32 v

-- the rttvar that a measurement makes of a usual one, from 1/16 to 2 ^ 32
abbrev pub AfterUsual : Float → Type 0
AfterUsual v = Within 3 32 v

-- whether the next measurement of a state is taken and is not the first, with an srtt within the limit and a usual rttvar
abbrev pub is_usual : RtoManager → Bool
is_usual t =
    cond t.no_update false
    (cond (counts_first t) false
    (cond (beyond t.srtt) false
    (cond (le (fin false 1 (negsuc 2)) t.rttvar) (le t.rttvar (fin false 1 (pos 32))) false)))
