-- A refusal changes nothing, of the words as well. `h` is the head that a call is lent, and `ws` are the words; `h'` and
-- `ws'` are those behind the call.
use Rattle.std.specs.Prelude.{◌≡◌, List, ℕ}
use Rattle.limits.specs.Refusals.{done}

-- the head and every word are as they were
abbrev pub Stays : {H : Type 0} → H → List ℕ → H → List ℕ → Type 0
Stays h ws h' ws' = (h' ≡ h) × (ws' ≡ ws)

-- where the number of an answer is a refusal, all is as it was
abbrev pub Spares : {H : Type 0} → (number : ℕ) → H → List ℕ → H → List ℕ → Type 0
Spares n h ws h' ws' = (n ≡ done → ⊥) → Stays h ws h' ws'
