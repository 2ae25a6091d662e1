-- The estimator that head and words mean: in the words its settings, initial, least and largest RTO, and then the flag. Any numbers mean one.
use Rattle.std.specs.Prelude.{ℕ, eqb, cond, List, length, Float, get_or, Result, Ok, Err}
use Rattle.limits.specs.Flags.{is_set}
use Rattle.limits.specs.declared.Refusal.{Refusal}
use Rattle.limits.specs.declared.Refusal.TheVariants.{BeyondLimit}
use Rattle.rto.specs.declared.RtoManager.{RtoManager}
use Rattle.rto_cells.specs.declared.Head.{Head}

-- with these settings; any word but 0 tells that updates are off
abbrev pub manager_in : Head → (initial low high noUpdate : ℕ) → RtoManager
manager_in d i l h u =
    record { srtt = d.srtt; rttvar = d.rttvar; rto = d.rto; no_update = is_set u; rto_initial = i; rto_min = l; rto_max = h }

-- the estimator of a head and its words
abbrev pub manager_of : Head → List ℕ → RtoManager
manager_of d ws = manager_in d (get_or ws 0 0) (get_or ws 1 0) (get_or ws 2 0) (get_or ws 3 0)

-- an estimator has four words; any other number of them is refused
abbrev pub manager_in_words : Head → List ℕ → Result RtoManager Refusal
manager_in_words d ws = cond (eqb (length ws) 4) (Ok (manager_of d ws)) (Err BeyondLimit)

-- what of an estimator stands in the head
abbrev pub head_with : ℕ → Float → ℕ → Head
head_with s v x = record { srtt = s; rttvar = v; rto = x }

-- the head of an estimator
abbrev pub head_of : RtoManager → Head
head_of m = head_with m.srtt m.rttvar m.rto
