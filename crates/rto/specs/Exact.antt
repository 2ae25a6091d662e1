-- The recurrence without rounding, over whole numbers: after a first measurement and `later` more, rttvar is num / 2 ^ places later.
-- A first measurement R gives R / 2. A later one gives (6 x v + 2 x d) / 8 for v = num / 2 ^ k and d = |srtt - R|, which is (3 x num + d x 2 ^ k) / 2 ^ (k + 2).
use Rattle.std.specs.Prelude.{ℕ, ◌+◌, ◌*◌, ◌^◌, ◌≤◌, false, cond, List, [], ◌∷◌}
use Rattle.std.specs.Float.Ieee.Exact.{HasValue}
use Rattle.rto.specs.declared.RtoManager.{RtoManager}
use Rattle.rto.specs.Rto.{gap, counts_first, fresh}
use Rattle.rto.specs.Calls.{Call, measure, get, reset, set, called, after}

-- the exact rttvar, and how many measurements came after the first
pub record Exact : Type 0 where
  pub num : ℕ
  pub later : ℕ

-- the power of two by which num is scaled
abbrev pub places : ℕ → ℕ
places n = 2 * n + 1

-- without a sample
abbrev pub none : Exact
none = record { num = 0; later = 0 }

-- after a first measurement R
abbrev pub begun : ℕ → Exact
begun r = record { num = r; later = 0 }

-- after a later measurement R, with the srtt that was
abbrev pub grown : ℕ → Exact → ℕ → Exact
grown s x r = record { num = 3 * x.num + gap s r * 2 ^ places x.later; later = x.later + 1 }

-- after a call in the state t, which says whether a measurement is taken, whether it counts as first, and what srtt was
abbrev pub followed : RtoManager → Exact → Call → Exact
followed t x (measure r) = cond t.no_update x (cond (counts_first t) (begun r) (grown t.srtt x r))
followed t x get = x
followed t x reset = cond t.no_update x none
followed t x (set y b) = x

-- after a list of calls
abbrev pub exactly : RtoManager → Exact → List Call → Exact
exactly t x [] = x
exactly t x (c ∷ cs) = exactly (called t c) (followed t x c) cs

-- every R is at most 60,000
abbrev pub Short : List Call → Type 0
Short [] = Unit
Short (measure r ∷ cs) = (r ≤ 60000) × Short cs
Short (get ∷ cs) = Short cs
Short (reset ∷ cs) = Short cs
Short (set x b ∷ cs) = Short cs

-- Claim: if every R is at most 60,000, rttvar equals the exact value after a first measurement and the next 18, whatever the settings and the other calls.
abbrev pub Exact18 : Type 0
Exact18 = (initial lo hi : ℕ) (cs : List Call) → Short cs →
    let t = fresh initial lo hi in
    let x = exactly t none cs in
    x.later ≤ 18 → HasValue (after t cs).rttvar false x.num (2 ^ places x.later)
