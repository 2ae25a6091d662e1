-- A listing as C hears it: the flat reply, and the list that was lent.
use Rattle.std.specs.Prelude.{◌≡◌, refl, List, ℕ, length}
use Rattle.std.proofs.Common.{ap, ◌∙◌}
use Rattle.limits.specs.Limits.{Room}
use Rattle.limits.specs.Refusals.{done}
use Rattle.model.specs.State.{Sender}
use Rattle.model.specs.Told.{told_listed}
use Rattle.model.specs.Rings.{Listing}
use Rattle.outbound_abandon.specs.LeanListing.{Lent, listed_in, DoesKept}
use Rattle.sender_head.specs.declared.Head.{Head}
use Rattle.sender_head.specs.Whole.{sender_of, Counted}
use Rattle.flat.specs.declared.Reply.{Reply}
use Rattle.flat.specs.Replies.{flat_listed}
use Rattle.model.specs.Answers.{Listed}

-- the reply, and the lent list as it comes back
pub record FlatLent : Type 0 where
  pub reply : Reply
  pub list : List ℕ

-- a listing's answer, flat
abbrev pub flat_lent : Lent → FlatLent
flat_lent l = record { reply = flat_listed l.answer; list = l.list }

-- the list stands in the front of the lent one, by the model's call where the numbers are kept, or by `lean` in states that no call makes; the
-- sender stays, and of the head only the bound of the deadlines may be another. A refused call leaves the head too
abbrev pub Lists : Room → (out : List ℕ) → (lean : (due room : ℕ) → Sender → Listing) → (call : (room : ℕ) → Sender → Listing) → Head → List ℕ → Head → List ℕ → (out' : List ℕ) → Reply → Type 0
Lists room out lean call h ws h' ws' out' y =
    DoesKept (Counted h ws) room (sender_of h ws) (record { reply = y; list = out' }) (flat_lent (listed_in out (lean h.queue.inflight.due (length out) (sender_of h ws)))) (flat_lent (listed_in out (call (length out) (sender_of h ws))))
    × ((sender_of h' ws' ≡ sender_of h ws) × (Counted h ws → Counted h' ws'))
    × ((ws' ≡ ws) × ((y.refusal ≡ done → ⊥) → h' ≡ h))

-- the answer `x` is the reply `y`; B is what becomes of the sender, and S what a refusal leaves
pub lists : {K B S : Type 0} {room : Room} {s : Sender} {x : Listed} {y : Reply} {ws out' : List ℕ} {l o : Lent} → y ≡ flat_listed x
    → DoesKept K room s (record { answer = x; list = out' }) l o × B × (((told_listed x).number ≡ done → ⊥) → S)
    → DoesKept K room s (record { reply = y; list = out' }) (flat_lent l) (flat_lent o) × B × ((ws ≡ ws) × ((y.refusal ≡ done → ⊥) → S))
lists {x = x} {y = y} {out' = out'} reply d =
    let flat : ◌≡◌ {A = FlatLent} (record { reply = y; list = out' }) (flat_lent (record { answer = x; list = out' })) = λ i. record { reply = reply i; list = out' } in (
      (flat ∙ ap flat_lent d.0.0, λ kept good. flat ∙ ap flat_lent (d.0.1 kept good)),
      d.1,
      (refl, λ n. d.2 (λ e. n (ap (λ (z : Reply). z.refusal) reply ∙ e))),
    )
