-- A ring as a word: `Ring W w k l` says that l is the rest of a message whose last sent fragment is w (none: nothing), and then whole
-- messages x with W x, their numbers strictly increasing, from k on or above w's.
use Prim.Native.Nat.{ℕ, zero, suc, ◌+◌, ◌-◌, ◌≤◌, ◌<◌}
use native.Mathlib.Nat.{le_refl, le_trans}
use native.Mathlib.Omega.{arith}
use mathlib.Core.Path.{◌≡◌, refl, sym, ap, subst, ◌∙◌}
use mathlib.Core.Logic.{◌≢◌, ◌⊎◌, inl, inr}
use mathlib.Core.Bool.{Bool, true, false, not, ◌&&◌, true≢false}
use mathlib.Core.Option.{Option, none, some}
use mathlib.Core.List.{List, [], ◌∷◌, ◌++◌, map}
use lib.Dec.{eqb, leb}
use borrow.Author.Tests.{not-true, not-false, eqb-true, eqb-false, ne_eqb, lt-leb}
use Rattle.model.specs.declared.Chunk.{Chunk}
use Rattle.model.specs.declared.Message.{Message}
use Rattle.model.specs.Lists.{when◌then◌else◌, keep}
use Rattle.model.specs.State.{is_of}
use Rattle.model.specs.Messages.{piece, cut}
use Rattle.model.specs.Rings.{with_message, renewed, has_lifetime, begun, started, ssn_before, lowered}
use Rattle.demands.specs.Words.{bare, Follows, behind, Remaining, Each, up_to_end, Waits}
use Rattle.demands.specs.States.{Ascending}
use Rattle.demands.proofs.Basic.{if-case, bool_case, and_l, and_r}
use Rattle.demands.proofs.Each.{keep_none}
use Rattle.std.specs.Prelude.{Some, None}

abbrev pub Ring : (Message → Type 0) → Option Chunk → ℕ → List Chunk → Type 0
Ring W none k [] = Unit {0}
Ring W (some p) k [] = ⊥
Ring W none k (c ∷ l) = (c.beginning ≡ true) × W c.message × (k ≤ c.message.number) × Ring W (behind c) (suc c.message.number) l
Ring W (some p) k (c ∷ l) = Follows p c × Ring W (behind c) (suc c.message.number) l

-- where the numbers of the whole messages begin
abbrev pub floor : Option Chunk → ℕ → ℕ
floor none k = k
floor (some p) k = suc p.message.number

pub floor_behind : (c : Chunk) → floor (behind c) (suc c.message.number) ≡ suc c.message.number
floor_behind c = if-case (λ (w : Option Chunk). floor w (suc c.message.number) ≡ suc c.message.number) c.ending (λ _. refl) (λ _. refl)

pub number_follows : {p c : Chunk} → Follows p c → c.message.number ≡ p.message.number
number_follows r = ap (λ (x : Message). x.number) r.same_message

pub ring_weaken : {W W' : Message → Type 0} (w : Option Chunk) (k k' : ℕ) (l : List Chunk) → k' ≤ k → ((x : Message) → floor w k ≤ x.number → W x → W' x)
    → Ring W w k l → Ring W' w k' l
ring_weaken none k k' [] h f r = tt
ring_weaken (some p) k k' [] h f r = r
ring_weaken none k k' (c ∷ l) h f r =
    let n : ℕ = c.message.number in
    (r.0, f c.message r.2 r.1, le_trans h r.2, ring_weaken (behind c) (suc n) (suc n) l (le_refl _) (λ x a. f x (omega (arith, r.2, floor_behind c))) r.3)
ring_weaken (some p) k k' (c ∷ l) h f r =
    let n : ℕ = c.message.number in
    (r.0, ring_weaken (behind c) (suc n) (suc n) l (le_refl _) (λ x a. f x (omega (arith, number_follows r.0, floor_behind c))) r.1)

-- whole messages from number m on, above all that wait in l, join the back
pub ring_append : {W W' : Message → Type 0} (w : Option Chunk) (k m : ℕ) (l r : List Chunk) → ((x : Message) → W x → (x.number < m) × W' x)
    → floor w k ≤ m → Ring W w k l → Ring W' none m r → Ring W' w k (l ++ r)
ring_append none k m [] r f h a b = ring_weaken none m k r h (λ n _ x. x) b
ring_append (some p) k m [] r f h a b = absurd a
ring_append none k m (c ∷ l) r f h a b =
    (a.0, (f c.message a.1).1, a.2, ring_append (behind c) _ m l r f (omega (arith, (f c.message a.1).0, floor_behind c)) a.3 b)
ring_append (some p) k m (c ∷ l) r f h a b =
    (a.0, ring_append (behind c) _ m l r f (omega (arith, number_follows a.0, floor_behind c)) a.1 b)

-- ---- a message is removed

abbrev pub minus : ℕ → Option Chunk → Option Chunk
minus n none = none
minus n (some p) = when is_of n p then none else some p

minus_yes : (n : ℕ) (c : Chunk) → is_of n c ≡ true → minus n (behind c) ≡ none
minus_yes n c e = if-case (λ (w : Option Chunk). minus n w ≡ none) c.ending (λ _. refl) (λ _. rw e refl)

minus_no : (n : ℕ) (c : Chunk) → is_of n c ≡ false → minus n (behind c) ≡ behind c
minus_no n c e = if-case (λ (w : Option Chunk). minus n w ≡ w) c.ending (λ _. refl) (λ _. rw e refl)

module _ {W W' : Message → Type 0} (n : ℕ) (f : (x : Message) → x.number ≢ n → W x → W' x) where
  abbrev Left : Option Chunk → ℕ → List Chunk → Type 0
  Left w k l = Ring W' w k (keep (λ d. not (is_of n d)) l)

  pub ring_keep : (w : Option Chunk) (k : ℕ) (l : List Chunk) → k ≤ floor w k → Ring W w k l → Ring W' (minus n w) k (keep (λ d. not (is_of n d)) l)
  ring_keep none k [] h r = tt
  ring_keep (some p) k [] h r = absurd r
  ring_keep none k (c ∷ l) h r =
      let m : ℕ = c.message.number in
      let ih = ring_keep (behind c) (suc m) l (omega (arith, floor_behind c)) r.3 in
      if-case (λ (x : List Chunk). Ring W' none k x) (not (is_of n c))
      (λ e. (r.0, f c.message (eqb-false m n (not-true _ e)) r.1, r.2, subst (λ (w : Option Chunk). Left w (suc m) l) (minus_no n c (not-true _ e)) ih))
      (λ e. ring_weaken none (suc m) k (keep (λ d. not (is_of n d)) l) (omega (arith, r.2)) (λ _ _ x. x) (subst (λ (w : Option Chunk). Left w (suc m) l) (minus_yes n c (not-false _ e)) ih))
  ring_keep (some p) k (c ∷ l) h r =
      let m : ℕ = c.message.number in
      let ih = ring_keep (behind c) (suc m) l (omega (arith, floor_behind c)) r.1 in
      let same : is_of n p ≡ is_of n c = ap (λ (i : ℕ). eqb i n) (sym (number_follows r.0)) in
      rw same (if-case (λ (x : List Chunk). Ring W' (when is_of n c then none else some p) k x) (not (is_of n c))
      (λ e. rw (not-true (is_of n c) e) (r.0, subst (λ (w : Option Chunk). Left w (suc m) l) (minus_no n c (not-true _ e)) ih))
      (λ e. rw (not-false (is_of n c) e) (ring_weaken none (suc m) k (keep (λ d. not (is_of n d)) l) (omega (arith, number_follows r.0)) (λ _ _ x. x)
      (subst (λ (w : Option Chunk). Left w (suc m) l) (minus_yes n c (not-false _ e)) ih))))

-- ---- a message is written

-- the fragments behind p
cut_behind : (W : Message → Type 0) (p : Chunk) (k n m l : ℕ) → Ring W (some p) k (cut p.message false (suc n) m (p.offset + p.length) l)
cut_behind W p k zero m l = (record { not_first = refl; same_message = refl; contiguous = refl }, tt)
cut_behind W p k (suc n) m l =
    (record { not_first = refl; same_message = refl; contiguous = refl }, cut_behind W (piece p.message false false (p.offset + p.length) m) _ n m (l - m))

pub cut_ring : (W : Message → Type 0) (x : Message) (n m o l : ℕ) → W x → Ring W none x.number (cut x true n m o l)
cut_ring W x zero m o l h = tt
cut_ring W x (suc zero) m o l h = (refl, h, le_refl _, tt)
cut_ring W x (suc (suc n)) m o l h = (refl, h, le_refl _, cut_behind W (piece x true false o m) _ n m (l - m))

-- ---- what is left of the message under way

rest_go : (W : Message → Type 0) (c : Chunk) (k : ℕ) (l : List Chunk) → (Ring W (some c) k l → Remaining (some c) (up_to_end l)) → (b : Bool)
    → Ring W (when b then none else some c) k l → Remaining (when b then none else some c) (when b then [] else up_to_end l)
rest_go W c k l f true r = tt
rest_go W c k l f false r = f r

pub ring_rest : (W : Message → Type 0) (p : Chunk) (k : ℕ) (l : List Chunk) → Ring W (some p) k l → Remaining (some p) (up_to_end l)
ring_rest W p k [] r = absurd r
ring_rest W p k (c ∷ l) r = (r.0, rest_go W c _ l (ring_rest W c _ l) c.ending r.1)

-- ---- each chunk is changed

abbrev pub omap : (Chunk → Chunk) → Option Chunk → Option Chunk
omap f none = none
omap f (some p) = some (f p)

module _ (f : Chunk → Chunk) (keeps-number : (c : Chunk) → (f c).message.number ≡ c.message.number)
    (keeps-beginning : (c : Chunk) → (f c).beginning ≡ c.beginning) (keeps-ending : (c : Chunk) → (f c).ending ≡ c.ending)
    (keeps-follows : (p c : Chunk) → Follows p c → Follows (f p) (f c)) where
  behind_map : (c : Chunk) → behind (f c) ≡ omap f (behind c)
  behind_map c =
      subst (λ (b : Bool). ◌≡◌ {A = Option Chunk} (when b then none else some (f c)) (omap f (behind c))) (sym (keeps-ending c))
      (bool_case (λ b. ◌≡◌ {A = Option Chunk} (when b then none else some (f c)) (omap f (when b then none else some c))) c.ending (λ _. refl) (λ _. refl))

  pub ring_map : (W W' : Message → Type 0) → ((c : Chunk) → W c.message → W' (f c).message) → (w : Option Chunk) (k : ℕ) (l : List Chunk)
      → Ring W w k l → Ring W' (omap f w) k (map f l)
  ring_map W W' g none k [] r = tt
  ring_map W W' g (some p) k [] r = absurd r
  ring_map W W' g none k (c ∷ l) r = (
    keeps-beginning c ∙ r.0,
    g c r.1,
    rw (keeps-number c) r.2,
    rw (behind_map c, keeps-number c) (ring_map W W' g (behind c) _ l r.3),
  )
  ring_map W W' g (some p) k (c ∷ l) r = (keeps-follows p c r.0, rw (behind_map c, keeps-number c) (ring_map W W' g (behind c) _ l r.1))

  pub remaining_map : (w : Option Chunk) (l : List Chunk) → Remaining w l → Remaining (omap f w) (map f l)
  remaining_map none [] r = tt
  remaining_map none (c ∷ l) r = absurd r
  remaining_map (some p) [] r = absurd r
  remaining_map (some p) (c ∷ l) r = (keeps-follows p c r.0, rw (behind_map c) (remaining_map (behind c) l r.1))

pub remaining_bare : (w : Option Chunk) (l : List Chunk) → Remaining w l → Remaining (omap bare w) (map bare l)
remaining_bare =
    remaining_map bare (λ c. refl) (λ c. refl) (λ c. refl)
    (λ p c r. record { not_first = r.not_first; same_message = ap (λ (x : Message). renewed x.ssn None x) r.same_message; contiguous = r.contiguous })

-- a change of the message alone, which keeps its number
abbrev pub remade : (Message → Message) → Chunk → Chunk
remade g c = with_message (g c.message) c

module _ (g : Message → Message) (keeps : (x : Message) → (g x).number ≡ x.number) where
  pub ring_remade : (W W' : Message → Type 0) → ((x : Message) → W x → W' (g x)) → (w : Option Chunk) (k : ℕ) (l : List Chunk)
      → Ring W w k l → Ring W' (omap (remade g) w) k (map (remade g) l)
  ring_remade W W' f =
      ring_map (remade g) (λ c. keeps c.message) (λ c. refl) (λ c. refl)
      (λ p c r. record { not_first = r.not_first; same_message = ap g r.same_message; contiguous = r.contiguous }) W W' (λ c. f c.message)

pub begun_number : (now k : ℕ) (x : Message) → (begun now k x).number ≡ x.number
begun_number now k x = if-case (λ (y : Message). y.number ≡ x.number) (leb k x.number && has_lifetime x) (λ _. refl) (λ _. refl)

-- a message that was seen stays as it is
pub begun_seen : (now k : ℕ) (x : Message) → x.number < k → begun now k x ≡ x
begun_seen now k x h = ap (λ (b : Bool). when (b && has_lifetime x) then renewed x.ssn (Some (now + x.reliability.value)) x else x) (lt-leb k x.number h)

pub bare_started : (now k : ℕ) (c : Chunk) → bare (started now k c) ≡ bare c
bare_started now k c =
    if-case (λ (x : Message). bare (with_message x c) ≡ bare c) (leb k c.message.number && has_lifetime c.message) (λ _. refl) (λ _. refl)

-- what `lowered` does with a message
abbrev pub lower : (stream : ℕ) → Message → Message
lower id x = when eqb x.stream id then renewed (ssn_before x.ssn) x.deadline x else x

pub lower_number : (id : ℕ) (x : Message) → (lower id x).number ≡ x.number
lower_number id x = if-case (λ (y : Message). y.number ≡ x.number) (eqb x.stream id) (λ _. refl) (λ _. refl)

lowered_is : (id : ℕ) (c : Chunk) → lowered id c ≡ remade (lower id) c
lowered_is id c =
    bool_case (λ b. (when b then with_message (renewed (ssn_before c.message.ssn) c.message.deadline c.message) c else c)
    ≡ with_message (when b then renewed (ssn_before c.message.ssn) c.message.deadline c.message else c.message) c) (eqb c.message.stream id) (λ _. refl) (λ _. refl)

pub map_lowered : (id : ℕ) (l : List Chunk) → map (lowered id) l ≡ map (remade (lower id)) l
map_lowered id [] = refl
map_lowered id (c ∷ l) = λ i. lowered_is id c i ∷ map_lowered id l i

-- ---- facts of each chunk

abbrev pub On : (Message → Type 0) → Option Chunk → Type 0
On Q none = Unit {0}
On Q (some p) = Q p.message

-- what holds of the message under way and of each that waits holds of each chunk
pub ring_each : {W Q : Message → Type 0} → ((x : Message) → W x → Q x) → (w : Option Chunk) (k : ℕ) (l : List Chunk) → On Q w → Ring W w k l → Each (λ c. Q c.message) l
ring_each f none k [] a r = tt
ring_each f (some p) k [] a r = tt
ring_each {W} {Q} f none k (c ∷ l) a r =
    let q : Q c.message = f c.message r.1 in (q, ring_each f (behind c) _ l (if-case (On Q) c.ending (λ _. tt) (λ _. q)) r.3)
ring_each {W} {Q} f (some p) k (c ∷ l) a r =
    let q : Q c.message = subst Q (sym r.0.same_message) a in (q, ring_each f (behind c) _ l (if-case (On Q) c.ending (λ _. tt) (λ _. q)) r.1)

-- a number that may not wait, and is not that of the message under way, is not in the ring
abbrev pub NotOf : ℕ → Option Chunk → Type 0
NotOf n = On (λ x. eqb x.number n ≡ false)

pub none_of : {W : Message → Type 0} (n : ℕ) → ((x : Message) → W x → x.number ≢ n) → (w : Option Chunk) (k : ℕ) (l : List Chunk) → NotOf n w → Ring W w k l
    → keep (is_of n) l ≡ []
none_of n h w k l a r = keep_none (is_of n) l (ring_each (λ x y. ne_eqb x.number n (h x y)) w k l a r)

-- a message whose first fragment is in the ring may wait
pub waits_may : {W : Message → Type 0} {P : Type 0} (n : ℕ) → ((x : Message) → x.number ≡ n → W x → P)
    → (w : Option Chunk) (k : ℕ) (l : List Chunk) → Ring W w k l → Waits n l → P
waits_may n h none k [] r x = absurd x
waits_may n h (some p) k [] r x = absurd x
waits_may n h none k (c ∷ l) r (inl e) = h c.message (eqb-true c.message.number n (and_l (is_of n c) c.beginning e)) r.1
waits_may n h none k (c ∷ l) r (inr x) = waits_may n h (behind c) _ l r.3 x
waits_may n h (some p) k (c ∷ l) r (inl e) = absurd (true≢false (sym (and_r (is_of n c) c.beginning e) ∙ r.0.not_first))
waits_may n h (some p) k (c ∷ l) r (inr x) = waits_may n h (behind c) _ l r.1 x

-- the other way round: a message in the ring that is not under way has its first fragment there
pub whole_waits : (W : Message → Type 0) (n : ℕ) (w : Option Chunk) (k : ℕ) (l : List Chunk) → NotOf n w → Ring W w k l → keep (is_of n) l ≢ [] → Waits n l
whole_waits W n none k [] a r h = absurd (h refl)
whole_waits W n (some p) k [] a r h = absurd r
whole_waits W n none k (c ∷ l) a r h =
    bool_case (λ b. is_of n c ≡ b → (when b then (c ∷ keep (is_of n) l) else keep (is_of n) l) ≢ [] → ((b && c.beginning) ≡ true) ⊎ Waits n l) (is_of n c)
    (λ _ _ _. inl r.0) (λ _ e h. inr (whole_waits W n (behind c) _ l (if-case (NotOf n) c.ending (λ _. tt) (λ _. e)) r.3 h)) refl h
whole_waits W n (some p) k (c ∷ l) a r h =
    let e : is_of n c ≡ false = ap (λ (m : ℕ). eqb m n) (number_follows r.0) ∙ a in
    inr (whole_waits W n (behind c) _ l (if-case (NotOf n) c.ending (λ _. tt) (λ _. e)) r.1 (rw e at h))

-- numbers ascend from j on, if the first does
abbrev pub From : ℕ → Option Chunk → ℕ → Type 0
From j none k = j ≤ k
From j (some p) k = j ≤ p.message.number

from_behind : (c : Chunk) → From c.message.number (behind c) (suc c.message.number)
from_behind c = if-case (λ (w : Option Chunk). From c.message.number w (suc c.message.number)) c.ending (λ _. omega arith) (λ _. le_refl _)

pub ring_ascending : (W : Message → Type 0) (j : ℕ) (w : Option Chunk) (k : ℕ) (l : List Chunk) → From j w k → Ring W w k l → Ascending j l
ring_ascending W j none k [] h r = tt
ring_ascending W j (some p) k [] h r = tt
ring_ascending W j none k (c ∷ l) h r = (le_trans h r.2, ring_ascending W _ (behind c) _ l (from_behind c) r.3)
ring_ascending W j (some p) k (c ∷ l) h r = (rw (number_follows r.0) h, ring_ascending W _ (behind c) _ l (from_behind c) r.1)
