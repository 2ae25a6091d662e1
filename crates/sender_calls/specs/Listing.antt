-- What has expired in flight, of the whole sender: what the call promises, and that the queue's promise is the sender's. `k` is where the queue's
-- half of the cells begins, as code counts it.
use Rattle.std.specs.Prelude.{◌≡◌, List, ℕ, length}
use Rattle.std.proofs.Common.{sym, ap, subst, ◌∙◌}
use Rattle.limits.specs.Limits.{Room}
use Rattle.limits.specs.Refusals.{done}
use Rattle.model.specs.State.{Sender}
use Rattle.model.specs.Told.{told_listed}
use Rattle.model.specs.Rings.{expired_inflight}
use Rattle.rows.specs.Parts.{part}
use Rattle.outbound_queue.specs.declared.OutboundQueue.{OutboundQueue}
use Rattle.outbound_abandon.specs.LeanListing.{lean_list, listed_in, DoesKept, Lists}
use Rattle.outbound_abandon.specs.LeanListing as Queue
use Rattle.sender_head.specs.declared.Head.{Head}
use Rattle.sender_head.specs.Whole.{table_words, room_in, sender_of, Counted}
use Rattle.sender_head.specs.Calls.{Becomes}
use Rattle.sender_head.specs.Lent.{headed, open_streams, lent_sender, lent_counted, read_sender, read_counted}
use Rattle.model.specs.Answers.{Listed}

-- the list is told, and the sender stays; a refused call leaves the head as it was
abbrev pub Finds : Room → (now : ℕ) → Head → List ℕ → (out out' : List ℕ) → Head → Listed → Type 0
Finds room now h ws out out' h' answer =
    Lists (Counted h ws) room now h.queue.inflight.due (sender_of h ws) out out' answer
    × Becomes (λ s. s) h ws h' ws × (((told_listed answer).number ≡ done → ⊥) → h' ≡ h)

-- the same of a sender by another name, where more is kept
kept_of : {A : Type 0} {kept other : Type 0} {room : Room} {got : A} {s t : Sender} (lean said : Sender → A) → (other → kept) → s ≡ t
    → DoesKept kept room s got (lean s) (said s) → DoesKept other room t got (lean t) (said t)
kept_of {other = other} {room} {got} lean said f e d = subst (λ (o : Sender). DoesKept other room o got (lean o) (said o)) e (d.0, λ k. d.1 (f k))

module _ (h : Head) (ws : List ℕ) (k : ℕ) (counted : k ≡ table_words ws) (q : OutboundQueue) where
  pub finds_lent : (now : ℕ) (out : List ℕ) {out' : List ℕ} {answer : Listed} → Queue.Finds now h.queue (part k (length ws) ws) out out' q answer → Finds (room_in ws) now h ws out out' (headed q h) answer
  finds_lent now out g = (
    kept_of (λ (s : Sender). listed_in out (lean_list now h.queue.inflight.due (length out) s)) (λ (s : Sender). listed_in out (expired_inflight now (length out) s))
        (lent_counted h ws k counted) (lent_sender h ws k counted) (g.0 (room_in ws) (open_streams h ws k counted)),
    (
      sym (read_sender h ws k counted q) ∙ g.1.0 (open_streams h ws k counted) ∙ lent_sender h ws k counted,
      λ z. read_counted h ws k counted q (g.1.1 (lent_counted h ws k counted z)),
    ),
    λ n. ap (λ (x : OutboundQueue). headed x h) (g.2 n),
  )
