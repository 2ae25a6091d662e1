-- Nothing is lost and nothing comes twice: what was yielded of a message, and then what is pending of it, is what it was cut into.
use Prim.Native.Nat.{ℕ, zero, suc, ◌+◌, ◌<◌}
use native.Mathlib.Nat.{le_refl, le_trans}
use native.Mathlib.Omega.{arith}
use mathlib.Core.Path.{◌≡◌, refl, sym, ap, subst, ◌∙◌}
use mathlib.Core.Logic.{◌≢◌, ◌⊎◌, inl, inr}
use mathlib.Core.Bool.{Bool, true, false, not, ◌&&◌, true≢false}
use mathlib.Core.Option.{Option, none, some}
use mathlib.Core.List.{List, [], ◌∷◌, ◌++◌, map, append-nil, append_assoc}
use lib.ListN.{length}
use lib.Dec.{eqb, leb, ltb}
use borrow.Author.Tests.{eqb-true, eq-eqb, ne_eqb}
use Rattle.limits.specs.Limits.{Room, offset_max, buffered_max, number_max}
use Rattle.model.specs.declared.Chunk.{Chunk}
use Rattle.model.specs.State.{Lane, Unordered, Ordered, UnderWay, Sender, Pending, Numbers, Out, fresh, with_pending, at, lane_of, in_rings, with_ring, is_of}
use Rattle.model.specs.declared.Message.{Message}
use Rattle.model.specs.declared.Stream.{Stream}
use Rattle.model.specs.Lists.{when◌then◌else◌, keep, first}
use Rattle.model.specs.Streams.{find}
use Rattle.model.specs.Messages.{pieces, fragments, message_of, is_unordered, number_after, accepted, write}
use Rattle.model.specs.Rings.{head_lane, with_message, has_lifetime, started, lowered, with_lifetimes, sent_at, pending_of, without, compacted}
use Rattle.model.specs.Calls.{Call, Write, Answer, step, run, yielded, yields_of}
use Rattle.demands.specs.Words.{as_cut, cut_of, Each, Unabandoned, Unexpired, was_accepted}
use Rattle.demands.specs.Kept.{NothingLost}
use Rattle.demands.proofs.Basic.{if-case, bool_case}
use Rattle.demands.proofs.Each.{each_weaken, keep_none}
use Rattle.demands.proofs.Lists.{not_of}
use Rattle.demands.proofs.Views.{Does, does, streams_only, writes, starts, sends, abandons_it, expires_tail, expires_whole, acks, pops, marks}
use Rattle.demands.proofs.Pieces.{Piece, pieces_are}
use Rattle.demands.proofs.Chunks.{number_after_lem}
use Rattle.demands.proofs.Ring.{none_of}
use Rattle.demands.proofs.Valid.{Valid, Waiting, other, front, not_beside, start_core, numbered}
use Rattle.demands.proofs.Steps.{keeps, reached}
use Rattle.model.specs.Answers.{Written}

-- ---- one chunk as it was cut

cut_started : (now k : ℕ) (c : Chunk) → as_cut (started now k c) ≡ as_cut c
cut_started now k c = if-case (λ (x : Message). as_cut (with_message x c) ≡ as_cut c) (leb k c.message.number && has_lifetime c.message) (λ _. refl) (λ _. refl)

cut_lowered : (id : ℕ) (c : Chunk) → as_cut (lowered id c) ≡ as_cut c
cut_lowered id c = if-case (λ (d : Chunk). as_cut d ≡ as_cut c) (eqb c.message.stream id) (λ _. refl) (λ _. refl)

-- the fragments of a message have its number
fragments_of : (p n o l : ℕ) (t : Stream) → Each (λ c. c.message.number ≡ n) (fragments p n o l t)
fragments_of p n o l t =
    each_weaken (Piece (message_of p n t) t.maximum (o + l)) (λ c. c.message.number ≡ n) (λ c z. ap (λ (x : Message). x.number) z.message) (fragments p n o l t)
    (pieces_are (message_of p n t) true t.maximum o l)

module _ (n : ℕ) where
  -- ---- the chunks of n in a list

  cut_append : (l r : List Chunk) → cut_of n (l ++ r) ≡ cut_of n l ++ cut_of n r
  cut_append [] r = refl
  cut_append (c ∷ l) r =
      bool_case (λ b. map as_cut (when b then (c ∷ keep (is_of n) (l ++ r)) else keep (is_of n) (l ++ r)) ≡ map as_cut (when b then (c ∷ keep (is_of n) l) else keep (is_of n) l) ++ cut_of n r) (is_of n c)
      (λ _. ap (λ (x : List Chunk). as_cut c ∷ x) (cut_append l r)) (λ _. cut_append l r)

  cut_map : (g : Chunk → Chunk) → ((c : Chunk) → as_cut (g c) ≡ as_cut c) → (l : List Chunk) → cut_of n (map g l) ≡ cut_of n l
  cut_map g h [] = refl
  cut_map g h (c ∷ l) =
      subst (λ (b : Bool). map as_cut (when b then (g c ∷ keep (is_of n) (map g l)) else keep (is_of n) (map g l)) ≡ cut_of n (c ∷ l)) (ap (is_of n) (sym (h c)))
      (bool_case (λ b. map as_cut (when b then (g c ∷ keep (is_of n) (map g l)) else keep (is_of n) (map g l)) ≡ map as_cut (when b then (c ∷ keep (is_of n) l) else keep (is_of n) l)) (is_of n c)
      (λ _ i. h c i ∷ cut_map g h l i) (λ _. cut_map g h l))

  -- all of n are kept
  cut_keep : (p : Chunk → Bool) → ((c : Chunk) → is_of n c ≡ true → p c ≡ true) → (l : List Chunk) → cut_of n (keep p l) ≡ cut_of n l
  cut_keep p h [] = refl
  cut_keep p h (c ∷ l) =
      bool_case (λ b. is_of n c ≡ b → cut_of n (when p c then (c ∷ keep p l) else keep p l) ≡ map as_cut (when b then (c ∷ keep (is_of n) l) else keep (is_of n) l)) (is_of n c)
      (λ _ e. rw (h c e, e) (ap (λ (x : List Chunk). as_cut c ∷ x) (cut_keep p h l)))
      (λ _ e. if-case (λ (x : List Chunk). cut_of n x ≡ cut_of n l) (p c) (λ _. rw e (cut_keep p h l)) (λ _. cut_keep p h l)) refl

  cut_other : (m : ℕ) → m ≢ n → (l : List Chunk) → cut_of n (keep (not_of m) l) ≡ cut_of n l
  cut_other m h = cut_keep (not_of m) (λ c e. ap not (ne_eqb c.message.number m (λ q. h (sym q ∙ eqb-true c.message.number n e))))

  cut_own : (l : List Chunk) → Each (λ c. c.message.number ≡ n) l → cut_of n l ≡ map as_cut l
  cut_own [] a = refl
  cut_own (c ∷ l) a = rw (eq-eqb c.message.number n a.0) (ap (λ (x : List Chunk). as_cut c ∷ x) (cut_own l a.1))

  cut_none : (l : List Chunk) → Each (λ c. c.message.number ≢ n) l → cut_of n l ≡ []
  cut_none l a =
      ap (λ (x : List Chunk). map as_cut x) (keep_none (is_of n) l (each_weaken (λ c. c.message.number ≢ n) (λ c. is_of n c ≡ false) (λ c. ne_eqb c.message.number n) l a))

  -- ---- what is pending of n, as it was cut

  abbrev left : Pending → List Chunk
  left p = cut_of n p.ordered ++ cut_of n p.unordered

  left_is : (p : Pending) → cut_of n (pending_of n p) ≡ left p
  left_is p = cut_append (keep (is_of n) p.ordered) (keep (is_of n) p.unordered) ∙ rw (cut_keep (is_of n) (λ _ e. e) p.ordered, cut_keep (is_of n) (λ _ e. e) p.unordered)

  -- a ring is x instead, and y is what went from its front: nothing, or all of n was in that ring
  left_ring : (l : Lane) (w : UnderWay) (y x : List Chunk) (p : Pending) → cut_of n (at l p) ≡ y ++ cut_of n x → (y ≡ []) ⊎ (cut_of n (at (other l) p) ≡ []) → y ++ left (with_ring l w x p) ≡ left p
  left_ring Ordered w y x p e h = sym (append_assoc y (cut_of n x) (cut_of n p.unordered)) ∙ ap (λ (z : List Chunk). z ++ cut_of n p.unordered) (sym e)
  left_ring Unordered w y x p e (inl h) = rw (e, h)
  left_ring Unordered w y x p e (inr h) = rw (e, h)

  -- nothing of n was pending, and x joins a ring
  left_only : (l : Lane) (w : UnderWay) (x : List Chunk) (p : Pending) → ((j : Lane) → cut_of n (at j p) ≡ []) → left (with_ring l w (at l p ++ x) p) ≡ cut_of n x
  left_only Ordered w x p h = rw (cut_append p.ordered x, h Ordered, h Unordered) (append-nil (cut_of n x))
  left_only Unordered w x p h = rw (cut_append p.unordered x, h Ordered, h Unordered)

  left_map : (g : Chunk → Chunk) → ((c : Chunk) → as_cut (g c) ≡ as_cut c) → (p : Pending) → left (in_rings (map g) p) ≡ left p
  left_map g h p = rw (cut_map g h p.ordered, cut_map g h p.unordered)

  left_without : (m : ℕ) → m ≢ n → (p : Pending) → left (without m p) ≡ left p
  left_without m h p = rw (cut_other m h p.ordered, cut_other m h p.unordered)

  -- ---- one call

  -- a send takes the first of all that is pending of its message
  left_sent : {room : Room} (s : Sender) (v : Valid room s) (now : ℕ) (c : Chunk) (x : List Chunk) → at (head_lane s.pending) s.pending ≡ c ∷ x → (w : UnderWay)
      → cut_of n (sent_at now c ∷ []) ++ left (with_ring (head_lane s.pending) w x s.pending) ≡ left s.pending
  left_sent s v now c x e w =
      left_ring l w (cut_of n (sent_at now c ∷ [])) x s.pending
      (ap (cut_of n) e ∙ cut_append (c ∷ []) x ∙ ap (λ (y : List Chunk). y ++ cut_of n x) (sym (cut_map (sent_at now) (λ _. refl) (c ∷ []))))
      (bool_case (λ b. is_of n c ≡ b → (map as_cut (when b then (sent_at now c ∷ []) else []) ≡ []) ⊎ (cut_of n (at (other l) s.pending) ≡ [])) (is_of n c)
      (λ _ i. inr (ap (λ (y : List Chunk). map as_cut y) (beside i))) (λ _ _. inl refl) refl)
    where
      l : Lane
      l = head_lane s.pending

      beside : is_of n c ≡ true → keep (is_of n) (at (other l) s.pending) ≡ []
      beside i =
          let f = front v c (ap first e) in
          none_of {W = Waiting v.fate v.sheet (other l)} n
          (λ y z q. not_beside v l c f.0 f.2 (ap v.fate (eqb-true c.message.number n i ∙ sym q) ∙ z.0)) none 0 (at (other l) s.pending) tt f.2.beside

  module _ {room : Room} (s : Sender) (v : Valid room s) (h : n < s.numbers.next) where
    -- what it yields of n, and then what it leaves pending of it, is what was pending; and n stays given out
    abbrev Keeps : Out Answer → Type 0
    Keeps r = (cut_of n (yielded r.says) ++ left r.after.pending ≡ left s.pending) × (n < r.after.numbers.next)

    -- a new message is another one
    left_written : (l : Lane) (x : List Chunk) → Each (λ c. c.message.number ≡ s.numbers.next) x → left (with_ring l s.pending.under_way (at l s.pending ++ x) s.pending) ≡ left s.pending
    left_written l x a =
        left_ring l s.pending.under_way [] (at l s.pending ++ x) s.pending
        (sym (cut_append (at l s.pending) x
        ∙ rw (cut_none x (each_weaken (λ c. c.message.number ≡ s.numbers.next) (λ c. c.message.number ≢ n) (λ c e q. omega arith) x a)) (append-nil (cut_of n (at l s.pending))))) (inl refl)

    lost_step : (k : Call) (r : Out Answer) (a x : Option ℕ) (b : Bool) → Does room k s r a x b → a ≢ some n → x ≢ some n → Keeps r
    lost_step k r a x b (streams_only _ _ q _) _ _ = (rw q, h)
    lost_step k r a x b (writes p o len t _ _) _ _ =
        (left_written (lane_of (is_unordered p t)) (fragments p s.numbers.next o len t) (fragments_of p s.numbers.next o len t), le_trans h (number_after_lem (pieces len t.maximum) s.numbers).0)
    lost_step k r a x b (starts now _ q _) _ _ = (rw q (left_map (started now s.numbers.unstarted) (cut_started now s.numbers.unstarted) s.pending), h)
    lost_step k r a x b (sends now c y _ e _) _ _ =
        (left_sent (with_lifetimes now s) (start_core s.pending v now).ok now c y e _ ∙ left_map (started now s.numbers.unstarted) (cut_started now s.numbers.unstarted) s.pending, h)
    lost_step k r a x b (abandons_it c _ _ q _ _) i _ = (rw q (left_without c.message.number (λ e. i (ap some e)) s.pending), h)
    lost_step k r a x b (expires_tail c _ _ q _ _) i _ = (rw q (left_without c.message.number (λ e. i (ap some e)) s.pending), h)
    lost_step k r a x b (expires_whole c _ _ q _ _) _ i = rw q (go c.message.unordered)
      where
        p : Pending
        p = without c.message.number s.pending

        gone : left p ≡ left s.pending
        gone = left_without c.message.number (λ e. i (ap some e)) s.pending

        go : (u : Bool) → (left (compacted u c.message.stream (with_pending p s)).pending ≡ left s.pending) × (n < (compacted u c.message.stream (with_pending p s)).numbers.next)
        go true = (gone, h)
        go false =
            (left_ring Ordered p.under_way [] (map (lowered c.message.stream) p.ordered) p (sym (cut_map (lowered c.message.stream) (cut_lowered c.message.stream) p.ordered)) (inl refl) ∙ gone, h)
    lost_step k r a x b (acks _ _ _ q _) _ _ = (rw q, h)
    lost_step k r a x b (pops _ _ _) _ _ = (refl, h)
    lost_step k r a x b marks _ _ = (refl, h)

  -- ---- any calls

  lost_run : {room : Room} (js : List Call) (s : Sender) → Valid room s → n < s.numbers.next → Unexpired room n js s → Unabandoned room n js s
      → cut_of n (yields_of room js s) ++ left (run room js s).pending ≡ left s.pending
  lost_run [] s v h x a = refl
  lost_run {room} (k ∷ js) s v h x a =
      let s' : Sender = (step room k s).after in
      let y : List Chunk = yielded (step room k s).says in
      let g = lost_step s v h k _ _ _ _ (does room k s) a.0 x.0 in
      rw (cut_append y (yields_of room js s')) (append_assoc (cut_of n y) (cut_of n (yields_of room js s')) (left (run room js s').pending)
      ∙ ap (λ (z : List Chunk). cut_of n y ++ z) (lost_run js s' (keeps s v k).0.ok g.1 x.1 a.1) ∙ g.0)

-- ---- the write

-- what an accepted write leaves
write_is : (room : Room) (id p o l : ℕ) (s : Sender) (t : Stream) → find id s.streams ≡ some t → was_accepted (write room id p o l s).says ≡ true → (write room id p o l s).after ≡ accepted p o l t s
unfolding write
write_is room id p o l s t e =
    let P : Out Written → Type 0 = λ r. was_accepted r.says ≡ true → r.after ≡ accepted p o l t s in
    let no : false ≡ true → s ≡ accepted p o l t s = λ q. absurd (true≢false (sym q)) in
    rw e (
    if-case P (ltb room.message l) (λ _. no) λ _.
    if-case P (ltb offset_max o) (λ _. no) λ _.
    if-case P (ltb buffered_max (t.buffered + l)) (λ _. no) λ _.
    if-case P (ltb room.ring (length (at (lane_of (is_unordered p t)) s.pending) + pieces l t.maximum)) (λ _. no) λ _.
    if-case P (leb 1 (pieces l t.maximum) && eqb s.numbers.next number_max) (λ _. no) λ _ _. refl
    )

-- a number is taken
next_after : (j : ℕ) (k : Numbers) → 0 < j → k.next < (number_after j k).next
next_after zero k h = absurd (omega arith)
next_after (suc j) k h = le_refl _

pub nothing_lost : NothingLost
nothing_lost room first-tsn first-message ks id p o l t found acc h js x a =
    let s : Sender = run room ks (fresh first-tsn first-message) in
    let v : Valid room s = reached room first-tsn first-message ks in
    let n : ℕ = s.numbers.next in
    let s' : Sender = (write room id p o l s).after in
    let e : s' ≡ accepted p o l t s = write_is room id p o l s t found acc in
    rw (left_is n (run room js s').pending) (lost_run n js s' (keeps s v (Write id p o l)).0.ok (rw e (next_after (pieces l t.maximum) s.numbers h)) x a
    ∙ rw e (left_only n (lane_of (is_unordered p t)) s.pending.under_way (fragments p n o l t) s.pending
    (λ j. cut_none n (at j s.pending) (each_weaken (λ c. c.message.number < n) (λ c. c.message.number ≢ n) (λ c z q. omega arith) (at j s.pending) (numbered v j)))
    ∙ cut_own n (fragments p n o l t) (fragments_of p n o l t)))
