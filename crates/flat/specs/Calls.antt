-- What a call with a flat reply does and says, from what the call does: `f` is the flat reply of its answer.
use Rattle.std.specs.Prelude.{◌≡◌, refl, List, ℕ}
use Rattle.std.proofs.Common.{ap, ◌∙◌}
use Rattle.limits.specs.Limits.{Room}
use Rattle.limits.specs.Refusals.{done}
use Rattle.model.specs.State.{Sender, Out, same}
use Rattle.model.specs.Calls.{told}
use Rattle.rows.specs.Spared.{Spares}
use Rattle.outbound_queue.specs.Outbound.{Does}
use Rattle.sender_head.specs.declared.Head.{Head}
use Rattle.sender_head.specs.Whole.{sender_of, Counted}
use Rattle.flat.specs.declared.Reply.{Reply}
use Rattle.flat.specs.Replies.{only_number}

-- ---- what a call does and says

-- the sender is made anew, whatever head and cells were; the cells stay
abbrev pub Makes : Sender → Head → List ℕ → Head → List ℕ → Reply → Type 0
Makes s h ws h' ws' y = (sender_of h' ws' ≡ s) × (Counted h' ws' × ((ws' ≡ ws) × (y ≡ only_number done)))

-- the model's call, of every head and every cells
abbrev pub Goes : {A B : Type 0} → (A → B) → (Sender → Out A) → Head → List ℕ → Head → List ℕ → B → Type 0
Goes f call h ws h' ws' y = (record { after = sender_of h' ws'; says = y } ≡ told f (call (sender_of h ws))) × (Counted h ws → Counted h' ws')

-- less than the model's in states that no call makes: there it is `lean`
abbrev pub Leans : {A B : Type 0} → (A → B) → Room → (lean call : Sender → Out A) → Head → List ℕ → Head → List ℕ → B → Type 0
Leans f room lean call h ws h' ws' y =
    Does room (sender_of h ws) (record { after = sender_of h' ws'; says = y }) (told f (lean (sender_of h ws))) (told f (call (sender_of h ws))) × (Counted h ws → Counted h' ws')

-- and of a call that can be refused: `number` is 01's in the reply. A refusal leaves the head and every word
abbrev pub GoesOrStays : {A B : Type 0} → (number : B → ℕ) → (A → B) → (Sender → Out A) → Head → List ℕ → Head → List ℕ → B → Type 0
GoesOrStays number f call h ws h' ws' y = Goes f call h ws h' ws' y × Spares (number y) h ws h' ws'

abbrev pub LeansOrStays : {A B : Type 0} → (number : B → ℕ) → (A → B) → Room → (lean call : Sender → Out A) → Head → List ℕ → Head → List ℕ → B → Type 0
LeansOrStays number f room lean call h ws h' ws' y = Leans f room lean call h ws h' ws' y × Spares (number y) h ws h' ws'

-- a call of the model that answers nothing: it is done
abbrev pub doing : (Sender → Sender) → Sender → Out ℕ
doing call s = record { after = call s; says = done }

-- a question: the model's answer
abbrev pub Asks : {A B : Type 0} → (A → B) → (Sender → A) → Head → List ℕ → B → Type 0
Asks f ask h ws y = y ≡ f (ask (sender_of h ws))

-- a question of what is kept: the head's counter, and the model's answer where the counters are sums, as they are from a fresh sender on
abbrev pub Sums : {A B : Type 0} → (A → B) → (kept : Head → A) → (Sender → A) → Head → List ℕ → B → Type 0
Sums f kept ask h ws y = (y ≡ f (kept h)) × (Counted h ws → y ≡ f (ask (sender_of h ws)))

-- ---- the same from what the call does, whose answer `x` is the reply `y`; K is what else it keeps

module _ {A B : Type 0} (f : A → B) {x : A} {y : B} (reply : y ≡ f x) where
  pub flatly : {s : Sender} {o : Out A} → same x s ≡ o → same y s ≡ told f o
  flatly {s} e = ap (λ (z : B). same z s) reply ∙ ap (told f) e

  pub goes : {K : Type 0} {s : Sender} {o : Out A} → (same x s ≡ o) × K → (same y s ≡ told f o) × K
  goes d = (flatly d.0, d.1)

  pub leans : {K : Type 0} {room : Room} {t s : Sender} {l o : Out A} → Does room t (same x s) l o × K → Does room t (same y s) (told f l) (told f o) × K
  leans d = ((flatly d.0.0, λ good. flatly (d.0.1 good)), d.1)

  -- S is what a refusal leaves
  spares : {S : Type 0} (number : B → ℕ) → ((number (f x) ≡ done → ⊥) → S) → (number y ≡ done → ⊥) → S
  spares number d refused = d (λ e. refused (ap number reply ∙ e))

  pub goes_or_stays : {K S : Type 0} {s : Sender} {o : Out A} (number : B → ℕ) → ((same x s ≡ o) × K) × ((number (f x) ≡ done → ⊥) → S) → ((same y s ≡ told f o) × K) × ((number y ≡ done → ⊥) → S)
  goes_or_stays number d = (goes d.0, spares number d.1)

  pub leans_or_stays : {K S : Type 0} {room : Room} {t s : Sender} {l o : Out A} (number : B → ℕ)
      → (Does room t (same x s) l o × K) × ((number (f x) ≡ done → ⊥) → S) → (Does room t (same y s) (told f l) (told f o) × K) × ((number y ≡ done → ⊥) → S)
  leans_or_stays number d = (leans d.0, spares number d.1)

  pub asks : {z : A} → x ≡ z → y ≡ f z
  asks e = reply ∙ ap f e

  pub sums : {K : Type 0} {k z : A} → (x ≡ k) × (K → x ≡ z) → (y ≡ f k) × (K → y ≡ f z)
  sums e = (asks e.0, λ counted. asks (e.1 counted))

-- of a call that answers nothing
pub marks : {K : Type 0} {s t : Sender} {y : Reply} → y ≡ only_number done → (s ≡ t) × K → (same y s ≡ told only_number (same done t)) × K
marks {K} {s} {t} {y} reply d = goes only_number reply (ap (λ (o : Sender). same done o) d.0, d.1)

-- of a sender that is made anew
pub makes : {K : Type 0} {s t : Sender} {ws : List ℕ} {y : Reply} → y ≡ only_number done → (s ≡ t) × K → (s ≡ t) × (K × ((ws ≡ ws) × (y ≡ only_number done)))
makes reply d = (d.0, (d.1, (refl, reply)))
