-- By the answer.
use mathlib.Core.Path.{refl, ap, ◌∙◌}
use Rattle.std.specs.Prelude.{Ok}
use Rattle.sender_head.specs.Whole.{sender_of}
use Rattle.sender_calls.specs.Behind.{behind_none, behind_refused, behind_unordered}
use Rattle.sender_calls.proofs.lower_behind.Goals as goal

pub returns-in_default : goal.returns-in_default
returns-in_default c = let a = c.args in ((behind_refused (sender_of a.h.now a.cells.now) c.in_default.is, λ z. z), λ n. (refl, refl))

pub returns-in_default-freed : goal.returns-in_default-freed
returns-in_default-freed c = let a = c.args in ((behind_none (sender_of a.h.now a.cells.now) (c.in-Ok.is ∙ ap Ok c.in_default-freed.is), λ z. z), λ n. (refl, refl))

pub returns-then-message : goal.returns-then-message
returns-then-message c = let a = c.args in ((behind_unordered (sender_of a.h.now a.cells.now) (c.in-Ok.is ∙ ap Ok c.in-Some.is) c.if-message.true, λ z. z), λ n. (refl, refl))
