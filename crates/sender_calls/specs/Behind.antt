-- What an expiry's answer means for the streams; and the same of a sender that is a variable, where `x` is the answer.
use Rattle.std.specs.Prelude.{◌≡◌, Bool, true, false, List, ℕ, Some, None, Ok, Err}
use Rattle.std.proofs.Common.{sym, ap, ◌∙◌}
use Rattle.limits.specs.Refusals.{done}
use Rattle.model.specs.Lists.{when◌then◌else◌}
use Rattle.model.specs.State.{Sender, with_streams}
use Rattle.model.specs.Streams.{find}
use Rattle.model.specs.Rings.{drop_ssn}
use Rattle.model.specs.Told.{told_expired}
use Rattle.rows.specs.Spared.{Spares}
use Rattle.outbound_abandon.specs.LeanExpiry.{dropped}
use Rattle.sender_head.specs.declared.Head.{Head}
use Rattle.sender_head.specs.Calls.{Becomes}
use Rattle.limits.specs.declared.Refusal.{Refusal}
use Rattle.model.specs.declared.ExpiredMessage.{ExpiredMessage}
use Rattle.model.specs.Answers.{Expired}

-- behind an ordered message the next SSN of its stream drops; where the expiry was refused, every word stays
abbrev pub LowersBehind : Expired → Head → List ℕ → List ℕ → Type 0
LowersBehind x h ws ws' = Becomes (λ s. with_streams (dropped x s.streams) s) h ws h ws' × Spares (told_expired x).number h ws h ws'

module _ (s : Sender) {x : Expired} where
  -- where nothing went
  pub behind_none : x ≡ Ok None → s ≡ with_streams (dropped x s.streams) s
  behind_none e = sym (ap (λ (y : Expired). with_streams (dropped y s.streams) s) e)

  pub behind_refused : {r : Refusal} → x ≡ Err r → s ≡ with_streams (dropped x s.streams) s
  behind_refused e = sym (ap (λ (y : Expired). with_streams (dropped y s.streams) s) e)

  module _ {m : ExpiredMessage} (e : x ≡ Ok (Some m)) where
    -- this is no refusal
    pub behind_told : (told_expired x).number ≡ done
    behind_told = ap (λ (y : Expired). (told_expired y).number) e

    abbrev picks : Bool → Sender
    picks b = with_streams (when b then s.streams else drop_ssn (find m.stream s.streams) s.streams) s

    told : picks m.unordered ≡ with_streams (dropped x s.streams) s
    told = sym (ap (λ (y : Expired). with_streams (dropped y s.streams) s) e)

    pub behind_unordered : m.unordered ≡ true → s ≡ with_streams (dropped x s.streams) s
    behind_unordered f = sym (ap picks f) ∙ told

    -- `z` has the stream's SSN lowered
    pub behind_ordered : m.unordered ≡ false → {z : Sender} → z ≡ with_streams (drop_ssn (find m.stream s.streams) s.streams) s → z ≡ with_streams (dropped x s.streams) s
    behind_ordered f q = q ∙ sym (ap picks f) ∙ told
