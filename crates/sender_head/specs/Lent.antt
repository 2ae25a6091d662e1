-- A call of the queue, as one of the whole sender: its half of the cells is lent, and `p` are the words that come back. `k` is where that half
-- begins, as code counts it.
use Rattle.std.specs.Prelude.{◌≡◌, List, ℕ, length}
use Rattle.std.proofs.Common.{sym, ap, subst, ◌∙◌}
use Rattle.limits.specs.Limits.{Room}
use Rattle.limits.specs.Told.{Told}
use Rattle.model.specs.declared.Stream.{Stream}
use Rattle.model.specs.State.{Sender, Out}
use Rattle.rows.specs.Parts.{part, patch, patch_own}
use Rattle.rows.specs.Spared.{Spares}
use Rattle.stream_table.specs.Tables.{table_of}
use Rattle.outbound_queue.specs.declared.OutboundQueue.{OutboundQueue}
use Rattle.outbound_queue.specs.Outbound.{Does, ring_room}
use Rattle.outbound_queue.specs.Outbound as Rings
use Rattle.outbound_queue.specs.Calls as Queue
use Rattle.sender_head.specs.declared.Head.{Head}
use Rattle.sender_head.specs.Whole.{table_words, Halves, halves, room_in, sender_of, Counted, parts_are, queue_back, sender_by, counted_by_lem}
use Rattle.sender_head.specs.Calls.{Goes, Becomes, Leans, GoesOrStays, LeansOrStays}

-- the head with another queue
abbrev pub headed : OutboundQueue → Head → Head
headed q h = record { queue = q; streams = h.streams }

module _ (h : Head) (ws : List ℕ) (k : ℕ) (counted : k ≡ table_words ws) where
  -- the open streams
  abbrev pub open_streams : List Stream
  open_streams = table_of h.streams (halves ws).table

  abbrev lent : List ℕ
  lent = part k (length ws) ws

  pub queue_is : lent ≡ (halves ws).queue
  queue_is = ap (λ (c : Halves). c.queue) (parts_are ws k counted)

  -- the sender that the queue's call speaks of is the whole one
  pub lent_sender : Rings.sender_of open_streams h.queue lent ≡ sender_of h ws
  lent_sender = ap (Rings.sender_of open_streams h.queue) queue_is

  pub lent_room : (room_in ws).flight ≡ ring_room lent
  lent_room = sym (ap ring_room queue_is)

  pub lent_counted : Counted h ws → Rings.Counted h.queue lent
  lent_counted c = subst (Rings.Counted h.queue) (sym queue_is) c

  module _ (q : OutboundQueue) where
    -- where nothing is stored
    pub read_sender : Rings.sender_of open_streams q lent ≡ sender_of (headed q h) ws
    read_sender = ap (Rings.sender_of open_streams q) queue_is

    pub read_counted : Rings.Counted q lent → Counted (headed q h) ws
    read_counted c = subst (Rings.Counted q) queue_is c

    module _ (p : List ℕ) (e : length p ≡ length lent) where
      pub back_sender : sender_of (headed q h) (patch k (length ws) ws p) ≡ Rings.sender_of open_streams q p
      back_sender = sender_by (headed q h) (patch k (length ws) ws p) (queue_back ws k counted p e)

      pub back_counted : Rings.Counted q p → Counted (headed q h) (patch k (length ws) ws p)
      back_counted c = counted_by_lem (headed q h) (patch k (length ws) ws p) (queue_back ws k counted p e) c

-- ---- what a call comes to, by the sender that is a variable: from `x` to `y` the senders are the same

pub told_of_lem : {A : Type 0} {says : A} {x y : Sender} → y ≡ x → ◌≡◌ {A = Out A} (record { after = y; says = says }) (record { after = x; says = says })
told_of_lem {A} {says} e = ap (λ (o : Sender). record { after = o; says = says }) e

-- the same outcome of the same sender
said_of : {A : Type 0} {says : A} {x y s t : Sender} (call : Sender → Out A) → y ≡ x → s ≡ t → record { after = x; says = says } ≡ call s → record { after = y; says = says } ≡ call t
said_of {A} {says} call e f q = told_of_lem e ∙ q ∙ ap call f

pub does_of : {A : Type 0} {room : Room} {got other : A} {s t : Sender} (lean said : Sender → A) → got ≡ other → s ≡ t → Does room s other (lean s) (said s) → Does room t got (lean t) (said t)
does_of {room = room} {got} {other} lean said g f d = subst (λ (o : Sender). Does room o got (lean o) (said o)) f (g ∙ d.0, λ good. g ∙ d.1 good)

-- ---- what the queue's call promises, the sender's call promises

module _ (h : Head) (ws : List ℕ) (k : ℕ) (counted : k ≡ table_words ws) (q : OutboundQueue) where
  -- where nothing is stored
  pub goes_read : {A : Type 0} {answer : A} (call : Sender → Out A) → Queue.Goes call h.queue (lent h ws k counted) q (lent h ws k counted) answer → Goes call h ws (headed q h) ws answer
  goes_read call g = (
    said_of call (sym (read_sender h ws k counted q)) (lent_sender h ws k counted) (g.0 (open_streams h ws k counted)),
    λ z. read_counted h ws k counted q (g.1 (lent_counted h ws k counted z)),
  )

  module _ (p : List ℕ) (e : length p ≡ length (lent h ws k counted)) where
    -- the cells then
    abbrev after : List ℕ
    after = patch k (length ws) ws p

    still : (Rings.Counted h.queue (lent h ws k counted) → Rings.Counted q p) → Counted h ws → Counted (headed q h) after
    still f z = back_counted h ws k counted q p e (f (lent_counted h ws k counted z))

    pub goes_lent : {A : Type 0} {answer : A} (call : Sender → Out A) → Queue.Goes call h.queue (lent h ws k counted) q p answer → Goes call h ws (headed q h) after answer
    goes_lent call g = (said_of call (back_sender h ws k counted q p e) (lent_sender h ws k counted) (g.0 (open_streams h ws k counted)), still g.1)

    pub becomes_lent : (change : Sender → Sender) → Queue.Becomes change h.queue (lent h ws k counted) q p → Becomes change h ws (headed q h) after
    becomes_lent change g = (back_sender h ws k counted q p e ∙ g.0 (open_streams h ws k counted) ∙ ap change (lent_sender h ws k counted), still g.1)

    pub leans_lent : {A : Type 0} {answer : A} (lean call : Sender → Out A) → Queue.Leans lean call h.queue (lent h ws k counted) q p answer → Leans lean call h ws (headed q h) after answer
    leans_lent lean call g = (
      does_of lean call (told_of_lem (back_sender h ws k counted q p e)) (lent_sender h ws k counted) (g.0 (room_in ws) (open_streams h ws k counted)),
      still g.1,
    )

    pub leans_in_lent : {A : Type 0} {answer : A} (lean call : Room → Sender → Out A) → Queue.LeansIn lean call h.queue (lent h ws k counted) q p answer → Leans (lean (room_in ws)) (call (room_in ws)) h ws (headed q h) after answer
    leans_in_lent lean call g = (
      does_of (lean (room_in ws)) (call (room_in ws)) (told_of_lem (back_sender h ws k counted q p e)) (lent_sender h ws k counted) (g.0 (room_in ws) (open_streams h ws k counted) (lent_room h ws k counted)),
      still g.1,
    )

    -- and what it leaves, the sender's call leaves
    pub spares_lent : (number : ℕ) → Spares number h.queue (lent h ws k counted) q p → Spares number h ws (headed q h) after
    spares_lent number s refused = let e = s refused in (ap (λ (o : OutboundQueue). headed o h) e.0, ap (patch k (length ws) ws) e.1 ∙ patch_own k (length ws) ws)

    pub goes_or_stays_lent : {A : Type 0} {answer : A} (told : A → Told) (call : Sender → Out A) → Queue.GoesOrStays told call h.queue (lent h ws k counted) q p answer → GoesOrStays told call h ws (headed q h) after answer
    goes_or_stays_lent {answer = answer} told call g = (goes_lent call g.0, spares_lent (told answer).number g.1)

    pub leans_or_stays_lent : {A : Type 0} {answer : A} (told : A → Told) (lean call : Sender → Out A) → Queue.LeansOrStays told lean call h.queue (lent h ws k counted) q p answer → LeansOrStays told lean call h ws (headed q h) after answer
    leans_or_stays_lent {answer = answer} told lean call g = (leans_lent lean call g.0, spares_lent (told answer).number g.1)

    pub leans_in_or_stays_lent : {A : Type 0} {answer : A} (told : A → Told) (lean call : Room → Sender → Out A) → Queue.LeansInOrStays told lean call h.queue (lent h ws k counted) q p answer → LeansOrStays told (lean (room_in ws)) (call (room_in ws)) h ws (headed q h) after answer
    leans_in_or_stays_lent {answer = answer} told lean call g = (leans_in_lent lean call g.0, spares_lent (told answer).number g.1)
