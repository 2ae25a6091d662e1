-- A message is cut into fragments, and these join the back of its ring: all of them, or none.
use Rattle.std.specs.Prelude.{◌≡◌, ℕ, zero, suc, ◌+◌, ◌-◌, ◌*◌, ◌<◌, ◌≤◌, Bool, true, false, ◌&&◌, List, [], ◌∷◌, ◌++◌, length, ◌==◌, ◌≢◌, nat_le, refl, Some, None, Option as Maybe}
use Rattle.std.specs.Option.{unwrap_or}
use Rattle.std.proofs.Common.{sym, ap, ap₂, ◌∙◌, append-nil, suc-mul, div-add-mod', mod-lt, arith, le-leb, leb-true, ne_eqb}
use Rattle.std.proofs.Math.Nat.{div-zero}
use Rattle.std.proofs.Math.Seq.{append_snoc}
use Rattle.std.proofs.lemmas.Bool.{lt-leb}
use Rattle.limits.specs.Limits.{offset_max}
use Rattle.model.specs.declared.Chunk.{Chunk}
use Rattle.model.specs.declared.Message.{Message}
use Rattle.model.specs.Lists.{when◌then◌else◌}
use Rattle.model.specs.State.{Pending, at, lane_of, with_ring}
use Rattle.model.specs.Messages.{pieces, piece, cut}
use Rattle.model.specs.Rings.{bytes}
use Rattle.ring.specs.Sums.{bytes_append}

-- the offset is within its limit, and the ring has room for all fragments
abbrev pub fits : (room maximum offset length : ℕ) → List Chunk → Bool
fits room m o n l = nat_le o offset_max && nat_le (length l + pieces n m) room

-- the ring behind that: with its fragments, or as it was
abbrev pub added : (room : ℕ) → Message → (maximum offset length : ℕ) → List Chunk → List Chunk
added room x m o n l = when fits room m o n l then l ++ cut x true (pieces n m) m o n else l

-- they join, all or none: the ring was `l` and is `k` then; the bytes that they bring and whether there was room are told
abbrev pub Adds : (room : ℕ) → Message → (maximum offset length : ℕ) → (l k : List Chunk) → (bytes : ℕ) → Bool → Type 0
Adds room x m o n l k more done = (k ≡ added room x m o n l) × (done ≡ fits room m o n l) × (bytes k ≡ bytes l + more)

-- their bytes: all of the message, and none where the maximum is 0
abbrev pub bytes_of : (length maximum : ℕ) → ℕ
bytes_of n zero = 0
bytes_of n (suc m) = n

-- the bytes that they bring, and nothing where they are not added
abbrev pub brought : (room maximum offset length : ℕ) → List Chunk → Maybe ℕ
brought room m o n l = when fits room m o n l then Some (bytes_of n m) else None

-- the same, of an answer that has the bytes only where there was room
abbrev pub Brings : (room : ℕ) → Message → (maximum offset length : ℕ) → (l k : List Chunk) → Maybe ℕ → Type 0
Brings room x m o n l k answer = (k ≡ added room x m o n l) × (answer ≡ brought room m o n l) × (bytes k ≡ bytes l + unwrap_or answer 0)

-- whether a message's fragments are added, where each ring has this room
abbrev pub fits_in : (room : ℕ) → Message → (maximum offset length : ℕ) → Pending → Bool
fits_in room x m off n p = fits room m off n (at (lane_of x.unordered) p)

-- what is pending then
abbrev pub with_fragments : (room : ℕ) → Message → (maximum offset length : ℕ) → Pending → Pending
with_fragments room x m off n p =
    with_ring (lane_of x.unordered) p.under_way (added room x m off n (at (lane_of x.unordered) p)) p

-- ---- the cases of each

module _ (room m o n : ℕ) (l : List Chunk) where
  pub fits_far : offset_max < o → false ≡ fits room m o n l
  fits_far h = sym (ap (λ (b : Bool). b && nat_le (length l + pieces n m) room) (lt-leb o offset_max h))

  pub fits_near : o ≤ offset_max → nat_le (length l + pieces n m) room ≡ fits room m o n l
  fits_near h = sym (ap (λ (b : Bool). b && nat_le (length l + pieces n m) room) (le-leb o offset_max h))

  pub fits_yes : o ≤ offset_max → length l + pieces n m ≤ room → fits room m o n l ≡ true
  fits_yes h k = sym (fits_near h) ∙ le-leb (length l + pieces n m) room k

  parts : (a b : Bool) → a && b ≡ true → (a ≡ true) × (b ≡ true)
  parts true b e = (refl, e)
  parts false b e = let z : ◌≡◌ {A = ℕ} 0 1 = cc in absurd (omega arith)

  pub fits_parts : fits room m o n l ≡ true → (o ≤ offset_max) × (length l + pieces n m ≤ room)
  fits_parts e =
      let r = parts (nat_le o offset_max) (nat_le (length l + pieces n m) room) e in
      (leb-true o offset_max r.0, leb-true (length l + pieces n m) room r.1)

  module _ (x : Message) where
    pub added_none : fits room m o n l ≡ false → l ≡ added room x m o n l
    added_none e = sym (ap (λ (b : Bool). when b then l ++ cut x true (pieces n m) m o n else l) e)

    pub added_all : fits room m o n l ≡ true → l ++ cut x true (pieces n m) m o n ≡ added room x m o n l
    added_all e = sym (ap (λ (b : Bool). when b then l ++ cut x true (pieces n m) m o n else l) e)

-- ---- the loop that adds them: k are to come, from the offset o on, of the n bytes that are left

-- the bytes of the next one: the last has the rest
abbrev pub size_of : (k maximum left : ℕ) → ℕ
size_of k m n = when k == 1 then n else m

cut_step : (x : Message) (b : Bool) (k m o n : ℕ) → piece x b (suc k == 1) o (size_of (suc k) m n) ∷ cut x false k m (o + m) (n - m) ≡ cut x b (suc k) m o n
cut_step x b zero m o n = refl
cut_step x b (suc k) m o n =
    let z : suc (suc k) ≡ 1 → ⊥ = λ e. omega arith in
    ap (λ (t : Bool). piece x b t o (when t then n else m) ∷ cut x false (suc k) m (o + m) (n - m)) (ne_eqb (suc (suc k)) 1 z)

-- a turn: f goes to the end of l, which is l' then, and w bytes are left
pub cut_turn : (x : Message) (b : Bool) (k m o n : ℕ) (l : List Chunk) {f : Chunk} {l' all : List Chunk} {w : ℕ} → 0 < k → f ≡ piece x b (k == 1) o (size_of k m n)
    → l' ≡ l ++ (f ∷ []) → w ≡ n - m → l ++ cut x b k m o n ≡ all → l' ++ cut x false (k - 1) m (o + m) w ≡ all
cut_turn x b zero m o n l h p q r v = absurd (omega arith)
cut_turn x b (suc k) m o n l {f} {l'} h p q r v =
    let e : suc k - 1 ≡ k = omega arith in
    let rest = cut x false k m (o + m) (n - m) in
    ap₂ (λ (j y : ℕ). l' ++ cut x false j m (o + m) y) e r ∙ ap (λ (y : List Chunk). y ++ rest) q ∙ append_snoc l f rest
    ∙ ap (λ (y : Chunk). l ++ (y ∷ rest)) p ∙ ap (λ (y : List Chunk). l ++ y) (cut_step x b k m o n) ∙ v

pub cut_done : (x : Message) (b : Bool) (k m o n : ℕ) {l all : List Chunk} → k ≡ 0 → l ++ cut x b k m o n ≡ all → l ≡ all
cut_done x b k m o n {l} e v = sym (ap (λ (j : ℕ). l ++ cut x b j m o n) e ∙ append-nil l) ∙ v

-- ---- their bytes

pub bytes_some : (n m : ℕ) → (m ≢ 0) → n ≡ bytes_of n m
bytes_some n zero h = absurd (h refl)
bytes_some n (suc m) h = refl

cut_sum : (x : Message) (b : Bool) (k m o n : ℕ) → k * m ≤ n → bytes (cut x b (suc k) m o n) ≡ n
cut_sum x b zero m o n h = omega arith
cut_sum x b (suc k) m o n h =
    let s = suc-mul k m in
    let z : k * m ≤ n - m = omega arith in
    omega (arith, cut_sum x false k m (o + m) (n - m) z)

cut_bytes : (x : Message) (k m o n : ℕ) → k * suc m ≤ n + m → n + m < k * suc m + suc m → bytes (cut x true k (suc m) o n) ≡ n
cut_bytes x zero m o n h l = omega arith
cut_bytes x (suc k) m o n h l = let s = suc-mul k (suc m) in let z : k * suc m ≤ n = omega arith in cut_sum x true k (suc m) o n z

pub added_bytes : (x : Message) (m o n : ℕ) (l : List Chunk) → bytes (l ++ cut x true (pieces n m) m o n) ≡ bytes l + bytes_of n m
added_bytes x zero o n l = ap (λ (k : ℕ). bytes (l ++ cut x true k 0 o n)) (div-zero (n + (0 - 1))) ∙ bytes_append l []
added_bytes x (suc m) o n l =
    let k = pieces n (suc m) in
    let z : 0 < suc m = omega arith in
    let d = div-add-mod' (n + (suc m - 1)) (suc m) in
    let r = mod-lt (n + (suc m - 1)) z in
    omega (arith, bytes_append l (cut x true k (suc m) o n), cut_bytes x k m o n (omega arith) (omega arith))
