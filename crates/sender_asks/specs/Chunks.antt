-- What each way out of a call that writes a chunk comes to, of the entry that was looked for.
use Rattle.std.specs.Prelude.{◌≡◌, refl, Bool, true, false, List, ℕ, Some, None}
use Rattle.std.proofs.Common.{sym, ap, ◌∙◌}
use Rattle.std.proofs.Math.Option.{Option, none, some}
use Rattle.model.specs.declared.Chunk.{Chunk}
use Rattle.model.specs.Lists.{when◌then◌else◌}
use Rattle.model.specs.Flight.{found, outstanding}
use Rattle.model.specs.Data.{Output, unwritten, data_laid, data_of_entry}
use Rattle.limits.specs.declared.Refusal.TheVariants.{NoEntry}
use Rattle.model.specs.Answers.{Found}

-- the entry, out of what was found
abbrev entry_in : Found → Option Chunk
entry_in None = none
entry_in (Some c) = some c

found_entry : (o : Option Chunk) → entry_in (found o) ≡ o
found_entry none = refl
found_entry (some c) = refl

module _ (t : ℕ) (l out : List ℕ) (entry : Option Chunk) where
  pub no_entry_lem : None ≡ found entry → unwritten NoEntry out ≡ data_of_entry entry t l out
  no_entry_lem e = ap (λ (o : Option Chunk). data_of_entry o t l out) (ap entry_in e ∙ found_entry entry)

  module _ (c : Chunk) (e : Some c ≡ found entry) where
    abbrev by : Bool → Output
    by b = when b then data_laid t c l out else unwritten NoEntry out

    of_entry : {b : Bool} → outstanding c ≡ b → by b ≡ data_of_entry entry t l out
    of_entry h = sym (ap by h) ∙ ap (λ (o : Option Chunk). data_of_entry o t l out) (ap entry_in e ∙ found_entry entry)

    pub settled_entry : outstanding c ≡ false → unwritten NoEntry out ≡ data_of_entry entry t l out
    settled_entry h = of_entry {b = false} h

    pub entry_written : {o : Output} → outstanding c ≡ true → o ≡ data_laid t c l out → o ≡ data_of_entry entry t l out
    entry_written h w = w ∙ of_entry {b = true} h
