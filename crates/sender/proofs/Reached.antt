-- Each request of the sender as one value follows the model's, so all of them do.
use mathlib.Core.Path.{◌≡◌, sym, ap, subst, ◌∙◌}
use native.Mathlib.Omega.{arith}
use Rattle.limits.specs.Limits.{room01}
use Rattle.model.specs.State.{Out}
use Rattle.model.specs.Rings.{send}
use Rattle.model.specs.Calls.{Open, SetReliability, SetLow, SetHigh, Write, Release, StartLifetimes, Send, ExpirePending, ExpirePendingTail, Abandon, Acknowledge, Pop, MarkAll, Ask}
use Rattle.model.specs.Requests.{Request, Single, ReadSack}
use Rattle.model.specs.Data.{Output}
use Rattle.demands.specs.Data.{ReadsBack}
use Rattle.sender.specs.declared.Sender.{Sender}
use Rattle.sender.specs.Value.{state_of, Sums}
use Rattle.sender.specs.Runs.{Follows}
use Rattle.sender.specs.Reached.{Called, ValueRuns, YieldsBelow255, WritesReadBack}
use Rattle.sender.proofs.Runs.{gone, leant, stayed, as_model, written_back}
use Rattle.model.specs.Answers.{Sent}

follows : (r : Request) (s s' : Sender) → Called r s s' → Follows state_of Sums r s s'
follows (Single (Open id m)) s s' d = gone d.1.0.0
follows (Single (SetReliability id u k v)) s s' d = gone d.1.0.0
follows (Single (SetLow id x)) s s' d = gone d.1.0.0
follows (Single (SetHigh id x)) s s' d = gone d.1.0.0
follows (Single (Write id p o l)) s s' d = gone d.1.0.0
follows (Single (Release id r)) s s' d = gone d.1.0.0
follows (Single (StartLifetimes clock)) s s' d = leant d.1.0.0
follows (Single (Send clock)) s s' d = leant d.1.0.0
follows (Single (ExpirePending clock)) s s' d = leant d.1.0.0
follows (Single (ExpirePendingTail clock)) s s' d = leant d.1.0.0
follows (Single (Abandon t)) s s' d = leant d.1.0
follows (Single (Acknowledge t)) s s' d = gone d.1.0
follows (Single (Pop t)) s s' d = gone d.1.0
follows (Single MarkAll) s s' d = (λ _. d.0, d.1)
follows (Single (Ask q)) s s' d = stayed state_of Sums d
follows (ReadSack p) s s' d = gone d.1.0.0

pub value_runs : ValueRuns
value_runs tsn number h rs s r = as_model state_of Sums follows tsn number h rs r.0 s r.1.0 r.1.1 r.2

pub yields_below_255 : YieldsBelow255
yields_below_255 tsn number h rs s s' r clock c p f a d =
    let m = value_runs tsn number h rs s r in
    let y = m.demand3.yield clock c p (omega (arith, f)) in
    let e : a ≡ (send room01 clock (state_of s)).says = ap (λ (o : Out Sent). o.says) (d.0.0.1 m.good) in
    (y.0, y.1, e ∙ y.2)

pub writes_read_back : WritesReadBack
writes_read_back tsn number h k rs ty s r bytes out t out' n d =
    let m = value_runs tsn number h rs s r in
    let w = written_back tsn number h k rs ty (state_of s) m.state t bytes out n (sym (ap (λ (o : Output). o.answer) d)) in
    (w.0, w.1, subst (ReadsBack t w.0 bytes out n) (sym (ap (λ (o : Output). o.out) d)) w.2)
