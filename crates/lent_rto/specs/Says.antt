-- The relations of `rto_cells`, of an estimator's head and four words before and after: what they mean is the model's, the reply is the model's
-- answer, and a refusal leaves every number.
use Rattle.std.specs.Prelude.{Bool, ℕ}
use Rattle.rto_cells.specs.declared.Smoothed.{Smoothed}
use Rattle.rto_cells.specs.Says as Cells
use Rattle.lent_rto.specs.declared.Rto.{Rto}

-- creation, with the initial RTO, the least and the largest: a refusal leaves the estimator that was there
abbrev pub New : (initial low high : ℕ) → Rto → Rto → ℕ → Type 0
New initial low high s s' y = Cells.Creates 4 initial low high s.head s.cells s'.head s'.cells y

-- a measurement: the answer is the smoothed time
abbrev pub SetNewRtt : (rtt : ℕ) → Rto → Rto → Smoothed → Type 0
SetNewRtt rtt s s' y = Cells.Measures 4 rtt s.head s.cells s'.head s'.cells y

-- the RTO as it stands
abbrev pub GetRto : Rto → ℕ → Type 0
GetRto s y = Cells.Gets s.head s.cells y

-- no measurement, and the initial RTO
abbrev pub Reset : Rto → Rto → ℕ → Type 0
Reset s s' y = Cells.Resets 4 s.head s.cells s'.head s'.cells y

-- RTO and flag as they are given
abbrev pub SetRto : (rto : ℕ) → (noUpdate : Bool) → Rto → Rto → ℕ → Type 0
SetRto x b s s' y = Cells.Sets 4 x b s.head s.cells s'.head s'.cells y
