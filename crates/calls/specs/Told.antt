-- From a question's own contract to that of the question as a value.
use Rattle.std.specs.Prelude.{◌≡◌, true}
use Rattle.std.proofs.Common.{sym, ap, ◌∙◌}
use Rattle.model.specs.State.{Sender}
use Rattle.model.specs.Calls as Model
use Rattle.sender_head.specs.declared.Head.{Head}
use Rattle.calls.specs.declared.Query.{Query}
use Rattle.calls.specs.Meant.{asked, kept, asks_sum}

-- ---- a question that is q

module _ {P : Type 0} {query q : Query} {x : Model.Answer} (h : Head) (s : Sender) (e : query ≡ q) where
  pub answered : kept q h s ≡ Model.answer (asked q) s → x ≡ Model.answer (asked q) s → (x ≡ kept query h s) × ((asks_sum query ≡ true → P) → x ≡ Model.answer (asked query) s)
  answered k a =
      let m = ap (λ (o : Query). Model.answer (asked o) s) (sym e) in (a ∙ sym k ∙ ap (λ (o : Query). kept o h s) (sym e), λ _. a ∙ m)

  -- of a counter that is kept
  pub summed : asks_sum q ≡ true → x ≡ kept q h s → (P → x ≡ Model.answer (asked q) s) → (x ≡ kept query h s) × ((asks_sum query ≡ true → P) → x ≡ Model.answer (asked query) s)
  summed t k a =
      (k ∙ ap (λ (o : Query). kept o h s) (sym e), λ p. a (p (ap asks_sum e ∙ t)) ∙ ap (λ (o : Query). Model.answer (asked o) s) (sym e))
