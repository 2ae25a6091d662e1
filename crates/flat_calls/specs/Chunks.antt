-- A chunk that is written into lent bytes, as C hears it: the flat reply, and the output that was lent.
use Rattle.std.specs.Prelude.{◌≡◌, List, ℕ}
use Rattle.std.proofs.Common.{ap, ◌∙◌}
use Rattle.model.specs.State.{Sender}
use Rattle.model.specs.Data.{Output}
use Rattle.sender_head.specs.declared.Head.{Head}
use Rattle.sender_head.specs.Whole.{sender_of}
use Rattle.flat.specs.declared.Reply.{Reply}
use Rattle.flat.specs.Replies.{flat_laid}
use Rattle.model.specs.Answers.{Laid}

-- the reply, and the lent output as it comes back
pub record FlatOutput : Type 0 where
  pub reply : Reply
  pub out : List ℕ

-- an answer with its output, flat
abbrev pub flat_output : Output → FlatOutput
flat_output o = record { reply = flat_laid o.answer; out = o.out }

-- the chunk stands in the front of the output, as the model's call lays it out of what head and cells mean; where that refuses it leaves the
-- output (`unwritten` of the model)
abbrev pub Lays : (out : List ℕ) → (call : (out : List ℕ) → Sender → Output) → Head → List ℕ → (out' : List ℕ) → Reply → Type 0
Lays out call h ws out' y = record { reply = y; out = out' } ≡ flat_output (call out (sender_of h ws))

-- the answer `x` is the reply `y`
pub lays : {x : Laid} {y : Reply} {out' : List ℕ} {o : Output} → y ≡ flat_laid x → record { answer = x; out = out' } ≡ o → record { reply = y; out = out' } ≡ flat_output o
lays {x} {y} {out'} reply e =
    let flat : ◌≡◌ {A = FlatOutput} (record { reply = y; out = out' }) (flat_output (record { answer = x; out = out' })) = λ i. record { reply = reply i; out = out' } in
    flat ∙ ap flat_output e
