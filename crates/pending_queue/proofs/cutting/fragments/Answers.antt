-- The model's division, which is 0 where the maximum is.
use Rattle.std.proofs.Common.{ℕ, ◌+◌, ◌-◌, sym, refl, ap, ◌∙◌, div-le_self, arith}
use native.Mathlib.Nat.{div-zero}
use Rattle.model.specs.Messages.{pieces}
use Rattle.pending_queue.proofs.cutting.fragments.Goals as goal

pub returns-then-maximum-eq0 : goal.returns-then-maximum-eq0
returns-then-maximum-eq0 c =
    let a = c.args in
    (sym (ap (λ (m : ℕ). pieces a.length m) c.if-maximum-eq0.true ∙ div-zero (a.length + (0 - 1))), omega arith)

pub returns : goal.returns
returns c =
    let a = c.args in
    (refl, omega (arith, div-le_self (a.length + (a.maximum - 1)) a.maximum))
