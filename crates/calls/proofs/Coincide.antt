-- A promise says of any state what comes out; and an answer is told from the model's.
use mathlib.Core.Path.{◌≡◌, refl, sym, ap, ◌∙◌}
use mathlib.Core.Option.{Option, none, some}
use Rattle.model.specs.State.{Out}
use Rattle.model.specs.Calls as Model
use Rattle.calls.specs.declared.Answer.{Answer}
use Rattle.calls.specs.Meant.{said}
use Rattle.calls.specs.Coincide.{OneOutcome, OneList, OutcomesCoincide}

pub one_outcome : OneOutcome
one_outcome A room s x y lean said p q = p.0 ∙ sym q.0

pub one_list : OneList
one_list A kept room s x y lean said p q = p.0 ∙ sym q.0

-- the answer that the model's was; the expired list is none of these
abbrev unsaid : Model.Answer → Option Answer
unsaid (Model.to_do a) = some (Answer.ToDo a)
unsaid (Model.to_write a) = some (Answer.ToWrite a)
unsaid (Model.to_release a) = some (Answer.ToRelease a)
unsaid (Model.to_send a) = some (Answer.ToSend a)
unsaid (Model.to_expire a) = some (Answer.ToExpire a)
unsaid (Model.to_expire_tail a) = some (Answer.ToExpireTail a)
unsaid (Model.to_abandon a) = some (Answer.ToAbandon a)
unsaid (Model.to_find a) = some (Answer.ToFind a)
unsaid (Model.to_seek a) = some (Answer.ToSeek a)
unsaid (Model.to_measure a) = some (Answer.ToMeasure a)
unsaid (Model.to_count a) = some (Answer.ToCount a)
unsaid (Model.to_list l) = none
unsaid (Model.number x) = some (Answer.Number x)
unsaid (Model.yes_no b) = some (Answer.YesNo b)

unsaid_said : (a : Answer) → unsaid (said a) ≡ some a
unsaid_said (Answer.ToDo a) = refl
unsaid_said (Answer.ToWrite a) = refl
unsaid_said (Answer.ToRelease a) = refl
unsaid_said (Answer.ToSend a) = refl
unsaid_said (Answer.ToExpire a) = refl
unsaid_said (Answer.ToExpireTail a) = refl
unsaid_said (Answer.ToAbandon a) = refl
unsaid_said (Answer.ToFind a) = refl
unsaid_said (Answer.ToSeek a) = refl
unsaid_said (Answer.ToMeasure a) = refl
unsaid_said (Answer.ToCount a) = refl
unsaid_said (Answer.Number x) = refl
unsaid_said (Answer.YesNo b) = refl

pub outcomes_coincide : OutcomesCoincide
outcomes_coincide h ws k a b u v p q =
    let e = p.0 ∙ sym q.0 in
    let t : some a ≡ some b = sym (unsaid_said a) ∙ ap (λ (r : Out Model.Answer). unsaid r.says) e ∙ unsaid_said b in
    (cc, ap (λ (r : Out Model.Answer). r.after) e)
