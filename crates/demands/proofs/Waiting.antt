-- How long a message waits: the chunks yielded before its first fragment are no more than those ahead of it.
use Prim.Native.Nat.{ℕ, zero, suc, ◌+◌, ◌≤◌, ◌<◌}
use native.Mathlib.Nat.{le_refl, le_of_eq}
use native.Mathlib.Omega.{arith}
use mathlib.Core.Path.{◌≡◌, refl, sym, ap, subst, ◌∙◌}
use mathlib.Core.Logic.{◌≢◌, ◌⊎◌, inl, inr}
use mathlib.Core.Bool.{Bool, true, false, not, ◌&&◌, true≢false}
use mathlib.Core.Option.{Option, some}
use mathlib.Core.List.{List, [], ◌∷◌, ◌++◌, map}
use lib.ListN.{length, take, length-map}
use lib.Dec.{eqb, leb}
use borrow.Author.Tests.{eqb-true, eqb-false, not-true, not-false}
use Rattle.limits.specs.Limits.{Room}
use Rattle.model.specs.declared.Chunk.{Chunk}
use Rattle.model.specs.State.{Lane, Unordered, Ordered, UnderWay, Idle, Sending, Sender, Pending, Numbers, Out, at, lane_of, in_rings, with_ring, with_pending, place, is_of}
use Rattle.model.specs.Lists.{when◌then◌else◌, keep}
use Rattle.model.specs.Messages.{fragments, is_unordered}
use Rattle.model.specs.Rings.{lane_ahead, head_lane, head, started, lowered, with_lifetimes, sent_at, under_way_after, ended, without, compacted, overdue}
use Rattle.model.specs.Calls.{Call, Answer, step, yielded, yields_of}
use Rattle.demands.specs.Words.{bare, up_to_end, rest_in, is_start, Waits, before, ordered_rest, ahead_unordered, ahead_ordered, Throughout, Unexpired, NoneUnordered, expires_message, accepts_unordered}
use Rattle.demands.proofs.Basic.{if-case, bool_case, and_l}
use Rattle.demands.proofs.Each.{keep_shorter}
use Rattle.demands.proofs.Lists.{at_ring, at_both, not_of, at_without}
use Rattle.demands.proofs.Views.{Does, does, streams_only, writes, starts, sends, abandons_it, expires_tail, expires_whole, acks, pops, marks}
use Rattle.demands.proofs.Ring.{waits_may, bare_started}
use Rattle.demands.proofs.Valid.{Valid, Sound, Waiting, Begun, rank, want, leave, ended_is, ended_idle, continues, in_flight_lem, flew_begun}
use Rattle.demands.proofs.Valid as Invariant
use Rattle.demands.proofs.Rest.{rest_pushed, rest_started, rest_without}
use Rattle.demands.proofs.Steps.{keeps}

-- ---- lists

-- the message waits in l' too, and no more stands before it there
abbrev Closer : ℕ → (l l' : List Chunk) → Type 0
Closer n l l' = Waits n l → Waits n l' × (before n l' ≤ before n l)

closer_same : (n : ℕ) (l : List Chunk) → Closer n l l
closer_same n l w = (w, le_refl _)

-- one chunk more in front
closer_cons : (n : ℕ) (c d : Chunk) (l l' : List Chunk) → is_start n d ≡ is_start n c → Closer n l l' → Closer n (c ∷ l) (d ∷ l')
closer_cons n c d l l' e f w =
    rw e (bool_case (λ b. (b ≡ true) ⊎ Waits n l → ((b ≡ true) ⊎ Waits n l') × ((when b then 0 else suc (before n l')) ≤ (when b then 0 else suc (before n l)))) (is_start n c)
    (λ _ _. (inl refl, le_refl 0)) (λ _ w. go w) w)
  where
    go : (false ≡ true) ⊎ Waits n l → ((false ≡ true) ⊎ Waits n l') × (suc (before n l') ≤ suc (before n l))
    go (inl e) = absurd (true≢false (sym e))
    go (inr w) = let z = f w in (inr z.0, omega (arith, z.1))

-- chunks join the back
closer_append : (n : ℕ) (l x : List Chunk) → Closer n l (l ++ x)
closer_append n [] x w = absurd w
closer_append n (c ∷ l) x w = closer_cons n c c l (l ++ x) refl (closer_append n l x) w

-- chunks change, but not what starts a message
closer_map : (n : ℕ) (f : Chunk → Chunk) → ((c : Chunk) → is_start n (f c) ≡ is_start n c) → (l : List Chunk) → Closer n l (map f l)
closer_map n f e [] w = absurd w
closer_map n f e (c ∷ l) w = closer_cons n c (f c) l (map f l) (e c) (closer_map n f e l) w

-- the chunk in front is the start, or stands before it
first_or_later : (n : ℕ) (c : Chunk) (l : List Chunk) → Waits n (c ∷ l) → (is_start n c ≡ true) ⊎ (Waits n l × (before n (c ∷ l) ≡ suc (before n l)))
first_or_later n c l w =
    bool_case (λ b. (b ≡ true) ⊎ Waits n l → (b ≡ true) ⊎ (Waits n l × ((when b then 0 else suc (before n l)) ≡ suc (before n l)))) (is_start n c) (λ _ _. inl refl) (λ _ x. inr (second x, refl)) w
  where
    second : (false ≡ true) ⊎ Waits n l → Waits n l
    second (inl e) = absurd (true≢false (sym e))
    second (inr x) = x

-- another message leaves
closer_drop : (n m : ℕ) (c : Chunk) (l l' : List Chunk) → m ≢ n → is_of m c ≡ true → Closer n l l' → Closer n (c ∷ l) l'
closer_drop n m c l l' h q f w = go (first_or_later n c l w)
  where
    go : (is_start n c ≡ true) ⊎ (Waits n l × (before n (c ∷ l) ≡ suc (before n l))) → Waits n l' × (before n l' ≤ before n (c ∷ l))
    go (inl e) = absurd (h (sym (eqb-true c.message.number m q) ∙ eqb-true c.message.number n (and_l (is_of n c) c.beginning e)))
    go (inr e) = let z = f e.0 in (z.0, omega (arith, z.1, e.1))

closer_keep : (n m : ℕ) (l : List Chunk) → m ≢ n → Closer n l (keep (not_of m) l)
closer_keep n m [] h w = absurd w
closer_keep n m (c ∷ l) h w =
    let f : Closer n l (keep (not_of m) l) = closer_keep n m l h in
    if-case (λ (x : List Chunk). Waits n x × (before n x ≤ before n (c ∷ l))) (not_of m c) (λ _. closer_cons n c c l (keep (not_of m) l) refl f w)
    (λ q. closer_drop n m c l (keep (not_of m) l) h (not-false (is_of m c) q) f w)

start_keeps : (now k n : ℕ) (c : Chunk) → is_start n (started now k c) ≡ is_start n c
start_keeps now k n c = ap (is_start n) (bare_started now k c)

lower_keeps : (id n : ℕ) (c : Chunk) → is_start n (lowered id c) ≡ is_start n c
lower_keeps id n c = if-case (λ (x : Chunk). is_start n x ≡ is_start n c) (eqb c.message.stream id) (λ _. refl) (λ _. refl)

-- ---- what is ahead

-- the chunks of the other ring that go first
abbrev pub beside : Lane → Pending → ℕ
beside Unordered p = ordered_rest p.under_way p.ordered
beside Ordered p = length p.unordered

abbrev pub ahead : Lane → (number : ℕ) → Pending → ℕ
ahead l n p = beside l p + before n (at l p)

-- the message waits on, and no more is ahead of it
abbrev Moves : Lane → ℕ → (p p' : Pending) → Type 0
Moves l n p p' = Waits n (at l p) → Waits n (at l p') × (ahead l n p' ≤ ahead l n p)

moves : (l : Lane) (n : ℕ) (p p' : Pending) → Closer n (at l p) (at l p') → beside l p' ≤ beside l p → Moves l n p p'
moves l n p p' f h w = let z = f w in (z.0, omega (arith, z.1))

-- the same rest, so as many of it ahead
rest_same : (w : UnderWay) (p p' : Pending) → map bare (rest_in w p') ≡ map bare (rest_in w p) → ordered_rest w p'.ordered ≡ ordered_rest w p.ordered
rest_same Idle p p' e = refl
rest_same (Sending Unordered) p p' e = refl
rest_same (Sending Ordered) p p' e = sym (length-map (up_to_end p'.ordered) bare) ∙ ap length e ∙ length-map (up_to_end p.ordered) bare

-- a message may be written: for one that waits in the ordered ring, no unordered one
abbrev pub Admits : Lane → (unordered : Bool) → Type 0
Admits Unordered b = Unit {0}
Admits Ordered b = b ≡ false

module _ {room : Room} {f : List Chunk} {k : Numbers} (p : Pending) (v : Sound room p.under_way (λ l. at l p) f k) where
  beside_pushed : (l : Lane) (b : Bool) → Admits l b → (x : List Chunk) → beside l (with_ring (lane_of b) p.under_way (at (lane_of b) p ++ x) p) ≤ beside l p
  beside_pushed Unordered true a x = le_refl _
  beside_pushed Unordered false a x =
      le_of_eq (rest_same p.under_way p (with_ring Ordered p.under_way (p.ordered ++ x) p) (ap (map bare) (rest_pushed p.under_way p.under_way p v Ordered x)))
  beside_pushed Ordered true a x = absurd (true≢false a)
  beside_pushed Ordered false a x = le_refl _

  pushed_moves : (l : Lane) (n : ℕ) (b : Bool) → Admits l b → (x : List Chunk) → Moves l n p (with_ring (lane_of b) p.under_way (at (lane_of b) p ++ x) p)
  pushed_moves l n b a x =
      let j : Lane = lane_of b in
      let p' : Pending = with_ring j p.under_way (at j p ++ x) p in
      moves l n p p' (at_ring (λ i y. Closer n (at i p) y) j p.under_way (at j p ++ x) p (closer_append n (at j p) x) (λ i. closer_same n (at i p)) l) (beside_pushed l b a x)

  beside_without : (l : Lane) (m : ℕ) → beside l (without m p) ≤ beside l p
  beside_without Ordered m = keep_shorter (not_of m) p.unordered
  beside_without Unordered m = rw (ended_is v m) (go p.under_way v)
    where
      go : (w : UnderWay) (v : Sound room w (λ l. at l p) f k) → ordered_rest (leave m v.last w) (keep (not_of m) p.ordered) ≤ ordered_rest w p.ordered
      go Idle v = le_refl 0
      go (Sending l) v =
          let n : ℕ = v.last.message.number in
          bool_case (λ b. is_of m v.last ≡ b → ordered_rest (when b then Idle else Sending l) (keep (not_of m) p.ordered) ≤ ordered_rest (Sending l) p.ordered) (is_of m v.last)
          (λ _ _. omega arith)
          (λ _ e. le_of_eq (rest_same (Sending l) p (without m p) (ap (map bare) (rw e at (rest_without (Sending l) p v m (λ q. eqb-false n m e (cc))))))) refl

  without_moves : (l : Lane) (n m : ℕ) → m ≢ n → Moves l n p (without m p)
  without_moves l n m h = moves l n p (without m p) (rw (at_without m p l) (closer_keep n m (at l p) h)) (beside_without l m)

started_moves : (now k : ℕ) (l : Lane) (n : ℕ) (p : Pending) → Moves l n p (in_rings (map (started now k)) p)
started_moves now k l n p =
    moves l n p (in_rings (map (started now k)) p) (at_both (λ i y. Closer n (at i p) y) (map (started now k)) p (λ i. closer_map n (started now k) (start_keeps now k n) (at i p)) l) (go l)
  where
    go : (l : Lane) → beside l (in_rings (map (started now k)) p) ≤ beside l p
    go Unordered = le_of_eq (rest_same p.under_way p (in_rings (map (started now k)) p) (rest_started now k p.under_way p))
    go Ordered = le_of_eq (length-map p.unordered (started now k))

-- SSNs drop where no message is under way
compacted_moves : (u : Bool) (id : ℕ) (l : Lane) (n : ℕ) (s : Sender) → s.pending.under_way ≡ Idle → Moves l n s.pending (compacted u id s).pending
compacted_moves true id l n s e = λ w. (w, le_refl _)
compacted_moves false id l n s e =
    moves l n p (with_ring Ordered p.under_way (map (lowered id) p.ordered) p)
    (at_ring (λ i y. Closer n (at i p) y) Ordered p.under_way (map (lowered id) p.ordered) p (closer_map n (lowered id) (lower_keeps id n) p.ordered) (λ i. closer_same n (at i p)) l) (go l)
  where
    p : Pending
    p = s.pending

    go : (l : Lane) → beside l (with_ring Ordered p.under_way (map (lowered id) p.ordered) p) ≤ beside l p
    go Unordered = rw e (le_refl 0)
    go Ordered = le_refl _

-- ---- one call

abbrev StartsWith : ℕ → List Chunk → Type 0
StartsWith n [] = ⊥
StartsWith n (y ∷ ys) = is_start n y ≡ true

-- what a call yields begins with the message's first fragment, or the message still waits, and less is ahead by what was yielded
abbrev Nears : Lane → ℕ → (ys : List Chunk) → (p p' : Pending) → Type 0
Nears l n ys p p' = StartsWith n ys ⊎ (Waits n (at l p') × (length ys + ahead l n p' ≤ ahead l n p))

quiet : (l : Lane) (n : ℕ) (ys : List Chunk) (p p' : Pending) → ys ≡ [] → Waits n (at l p) → Moves l n p p' → Nears l n ys p p'
quiet l n ys p p' e w f = let z = f w in rw e (inr (z.0, omega (arith, z.1)))

later : (l : Lane) (n : ℕ) (ys : List Chunk) (p q r : Pending) → ahead l n q ≤ ahead l n p → Nears l n ys q r → Nears l n ys p r
later l n ys p q r h (inl e) = inl e
later l n ys p q r h (inr e) = inr (e.0, omega (arith, e.1))

-- the front of the message's own ring is sent
own_front : (l : Lane) (n now : ℕ) (c : Chunk) (x : List Chunk) (p p' : Pending) → at l p ≡ c ∷ x → at l p' ≡ x → beside l p' ≤ beside l p → Waits n (at l p)
    → Nears l n (sent_at now c ∷ []) p p'
own_front l n now c x p p' e e' h w = go (first_or_later n c x (subst (Waits n) e w))
  where
    go : (is_start n c ≡ true) ⊎ (Waits n x × (before n (c ∷ x) ≡ suc (before n x))) → Nears l n (sent_at now c ∷ []) p p'
    go (inl q) = inl q
    go (inr q) = inr (subst (Waits n) (sym e') q.0, omega (arith, q.1, ap (before n) e, ap (before n) e'))

-- an unordered message waits, and the ordered ring is ahead: its message is under way
held : (n : ℕ) (w : UnderWay) (u : List Chunk) → lane_ahead w u ≡ Ordered → Waits n u → w ≡ Sending Ordered
held n Idle [] e x = absurd x
held n Idle (c ∷ u) e x = let z : ◌≡◌ {A = ℕ} 0 1 = cc in absurd (omega arith)
held n (Sending l) u e x = ap Sending e

sent : (l j : Lane) (n now : ℕ) (c : Chunk) (x : List Chunk) (p : Pending) → head_lane p ≡ j → at j p ≡ c ∷ x → Waits n (at l p)
    → Nears l n (sent_at now c ∷ []) p (with_ring j (under_way_after j c) x p)
sent Unordered Unordered n now c x p i e w =
    own_front Unordered n now c x p (with_ring Unordered (under_way_after Unordered c) x p) e refl
    (bool_case (λ b. ordered_rest (when b then Idle else Sending Unordered) p.ordered ≤ ordered_rest p.under_way p.ordered) c.ending (λ _. omega arith) (λ _. omega arith)) w
sent Ordered Ordered n now c x p i e w = own_front Ordered n now c x p (with_ring Ordered (under_way_after Ordered c) x p) e refl (le_refl _) w
sent Unordered Ordered n now c x p i e w =
    let less : suc (ordered_rest (under_way_after Ordered c) x) ≡ length (up_to_end (c ∷ x)) =
    ap suc (bool_case (λ b. ordered_rest (when b then Idle else Sending Ordered) x ≡ length (when b then [] else up_to_end x)) c.ending (λ _. refl) (λ _. refl)) in
    inr (w, rw (held n p.under_way p.unordered i w, e) (omega arith))
sent Ordered Unordered n now c x p i e w = inr (w, omega (arith, ap length e))

module _ {room : Room} (s : Sender) (v : Valid room s) (l : Lane) (n : ℕ) (w : Waits n (at l s.pending)) where
  -- a message that waits is none that has begun
  not_begun : (m : ℕ) → Begun (v.fate m) → m ≢ n
  not_begun m h q =
      waits_may {W = Waiting v.fate v.sheet l} n (λ x e z. omega (arith, ap rank (ap v.fate (q ∙ sym e) ∙ z.0))) (want s.pending.under_way v.last l) 0 (at l s.pending) (v.rings l) w

  nears : (k : Call) → expires_message k s ≢ some n → Admits l (accepts_unordered room k s)
      → Nears l n (yielded (step room k s).says) s.pending (step room k s).after.pending
  nears k = go _ _ _ _ (does room k s)
    where
      p : Pending
      p = s.pending

      stays : (ys : List Chunk) → ys ≡ [] → Nears l n ys p p
      stays ys e = quiet l n ys p p e w (λ w. (w, le_refl _))

      gone : (ys : List Chunk) (m : ℕ) → ys ≡ [] → m ≢ n → Nears l n ys p (without m p)
      gone ys m e h = quiet l n ys p (without m p) e w (without_moves p v l n m h)

      go : (r : Out Answer) (a x : Option ℕ) (b : Bool) → Does room k s r a x b → x ≢ some n → Admits l b → Nears l n (yielded r.says) p r.after.pending
      go r a x b (streams_only _ _ q _) h d = stays _ q
      go r a x b (writes i o len t _ _) h d = quiet l n [] p r.after.pending refl w (pushed_moves p v l n (is_unordered i t) d (fragments i s.numbers.next o len t))
      go r a x b (starts now _ q _) h d = quiet l n _ p r.after.pending q w (started_moves now s.numbers.unstarted l n p)
      go r a x b (sends now c y _ e _) h d =
          let p' : Pending = (with_lifetimes now s).pending in
          let z = started_moves now s.numbers.unstarted l n p w in
          later l n (sent_at now c ∷ []) p p' r.after.pending z.1 (sent l (head_lane p') n now c y p' refl e z.0)
      go r a x b (abandons_it c t _ q e _) h d = gone _ c.message.number q (not_begun c.message.number (flew_begun (in_flight_lem v (place t s.flight) c e).flew))
      go r a x b (expires_tail c now _ q e g) h d =
          let i = (continues v c e (not-true c.beginning (and_l (not c.beginning) (overdue now c) g))).sends in
          gone _ c.message.number q (not_begun c.message.number (omega (arith, ap rank i)))
      go r a x b (expires_whole c now _ q e g) h d =
          let m : ℕ = c.message.number in
          let free = (Invariant.starts v c e (and_l c.beginning (leb 1 c.length && overdue now c) g)).idle in
          let idle : (without m p).under_way ≡ Idle = ap (ended m (head p)) free ∙ ended_idle m (head p) in
          let z = without_moves p v l n m (λ z. h (ap some z)) w in
          later l n (yielded r.says) p (without m p) r.after.pending z.1
          (quiet l n (yielded r.says) (without m p) r.after.pending q z.0 (compacted_moves c.message.unordered c.message.stream l n (with_pending (without m p) s) idle))
      go r a x b (acks _ _ _ q _) h d = stays _ q
      go r a x b (pops _ _ _) h d = stays [] refl
      go r a x b marks h d = stays [] refl

-- ---- any calls

before_less : (n : ℕ) (ys zs : List Chunk) → before n (ys ++ zs) ≤ length ys + before n zs
before_less n [] zs = omega arith
before_less n (c ∷ ys) zs =
    let ih = before_less n ys zs in
    if-case (λ (i : ℕ). i ≤ suc (length ys) + before n zs) (is_start n c) (λ _. omega arith) (λ _. omega arith)

nearer : (l : Lane) (n : ℕ) (ys zs : List Chunk) (p p' : Pending) → Nears l n ys p p' → (Waits n (at l p') → before n zs ≤ ahead l n p') → before n (ys ++ zs) ≤ ahead l n p
nearer l n [] zs p p' (inl e) f = absurd e
nearer l n (y ∷ ys) zs p p' (inl e) f = rw e (omega arith)
nearer l n ys zs p p' (inr w) f = let g = f w.0 in omega (arith, w.1, before_less n ys zs)

pub bound : {room : Room} (l : Lane) (n : ℕ) (ks : List Call) (s : Sender) → Valid room s → Waits n (at l s.pending) → Unexpired room n ks s
    → Throughout room (λ k s. Admits l (accepts_unordered room k s)) ks s → before n (yields_of room ks s) ≤ ahead l n s.pending
bound l n [] s v w h d = omega arith
bound {room} l n (k ∷ ks) s v w h d =
    let s' : Sender = (step room k s).after in
    nearer l n (yielded (step room k s).says) (yields_of room ks s') s.pending s'.pending (nears s v l n w k h.0 d.0) (λ w. bound l n ks s' (keeps s v k).0.ok w h.1 d.1)

-- ---- where the message stands in what is yielded

-- a first fragment that stands before the end is among those up to it
among : (n a : ℕ) (l : List Chunk) → before n l ≤ a → a < length l → Waits n (take (suc a) l)
among n a [] h k = absurd (omega arith)
among n zero (c ∷ l) h k = bool_case (λ b. (when b then 0 else suc (before n l)) ≤ 0 → (b ≡ true) ⊎ ⊥) (is_start n c) (λ _ _. inl refl) (λ _ g. absurd (omega arith)) h
among n (suc a) (c ∷ l) h k =
    bool_case (λ b. (when b then 0 else suc (before n l)) ≤ suc a → (b ≡ true) ⊎ Waits n (take (suc a) l)) (is_start n c) (λ _ _. inl refl) (λ _ g. inr (among n a l (omega arith) (omega arith))) h

-- no condition
throughout : (room : Room) (ks : List Call) (s : Sender) → Throughout room (λ k s. Unit {0}) ks s
throughout room [] s = tt
throughout room (k ∷ ks) s = (tt, throughout room ks (step room k s).after)

pub unordered_starts_lem : {room : Room} (s : Sender) → Valid room s → (n : ℕ) → Waits n s.pending.unordered → (js : List Call) → Unexpired room n js s
    → ahead_unordered n s.pending < length (yields_of room js s) → Waits n (take (suc (ahead_unordered n s.pending)) (yields_of room js s))
unordered_starts_lem {room} s v n w js h = among n (ahead_unordered n s.pending) (yields_of room js s) (bound Unordered n js s v w h (throughout room js s))

pub ordered_starts_lem : {room : Room} (s : Sender) → Valid room s → (n : ℕ) → Waits n s.pending.ordered → (js : List Call) → Unexpired room n js s → NoneUnordered room js s
    → ahead_ordered n s.pending < length (yields_of room js s) → Waits n (take (suc (ahead_ordered n s.pending)) (yields_of room js s))
ordered_starts_lem {room} s v n w js h d = among n (ahead_ordered n s.pending) (yields_of room js s) (bound Ordered n js s v w h d)
