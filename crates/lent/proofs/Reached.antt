-- Each exported function follows the model's request, so any of them do, one after the other.
use mathlib.Core.Path.{◌≡◌, sym, ap, subst, ◌∙◌}
use mathlib.Core.Bool.{true, true≢false}
use native.Mathlib.Omega.{arith}
use Rattle.limits.specs.Limits.{room01}
use Rattle.model.specs.State.{Out}
use Rattle.model.specs.Rings.{send}
use Rattle.model.specs.Data.{data_chunk}
use Rattle.demands.specs.Data.{ReadsBack}
use Rattle.sender.proofs.Runs.{as_model, written_back}
use Rattle.flat.specs.declared.Fragment.{Fragment}
use Rattle.flat.specs.declared.Reply.{Reply}
use Rattle.flat.specs.Replies.{flat_sent, flat_laid}
use Rattle.flat_calls.specs.Chunks.{FlatOutput}
use Rattle.lent.specs.Reached.{state_of, Sums, LentRuns, YieldsBelow255, WritesReadBack}
use Rattle.lent.proofs.Called.{follows}
use Rattle.std.specs.Prelude.{Ok, Err}
use Rattle.model.specs.Answers.{Laid}

pub lent_runs : LentRuns
lent_runs tsn number h rs s r = as_model state_of Sums follows tsn number h rs r.1 s r.3.0 r.3.1.0 r.4

pub yields_below_255 : YieldsBelow255
yields_below_255 tsn number h rs s s' r clock c p f y d =
    let m = lent_runs tsn number h rs s r in
    let z = m.demand3.yield clock c p (omega (arith, f)) in
    let said : y ≡ flat_sent (send room01 clock (state_of s)).says = ap (λ (o : Out Fragment). o.says) (d.0.0.1 m.good) in
    let e = said ∙ ap flat_sent z.2 in
    (ap (λ (x : Fragment). x.some) e, ap (λ (x : Fragment). x.tsn) e, (z.0, z.1, e))

-- a reply that says yes tells bytes
told_bytes : (a : Laid) (y : Reply) → y ≡ flat_laid a → y.yes ≡ true → a ≡ Ok y.value
told_bytes (Ok n) y e h = ap (λ (x : Reply). Ok x.value) (sym e)
told_bytes (Err n) y e h = absurd (true≢false (sym h ∙ ap (λ (x : Reply). x.yes) e))

pub writes_read_back : WritesReadBack
writes_read_back tsn number h k rs ty s r bytes out t out' y d e =
    let m = lent_runs tsn number h rs s r in
    let a = told_bytes (data_chunk t bytes out (state_of s)).answer y (ap (λ (o : FlatOutput). o.reply) d) e in
    let w = written_back tsn number h k rs ty (state_of s) m.state t bytes out y.value a in
    (w.0, w.1, subst (ReadsBack t w.0 bytes out y.value) (sym (ap (λ (o : FlatOutput). o.out) d)) w.2)
