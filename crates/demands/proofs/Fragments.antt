-- A message is cut as RFC 9260 has it: how many fragments, each of them by one equation, and their sizes.
use Prim.Native.Nat.{ℕ, zero, suc, ◌+◌, ◌-◌, ◌*◌, ◌/◌, ◌%◌, ◌≤◌, ◌<◌}
use native.Mathlib.Nat.{div-add-mod', mod-lt, div-lt_iff_lt-mul, not-suc-le-zero}
use native.Mathlib.Omega.{arith}
use mathlib.Core.Path.{◌≡◌, refl, sym, ap, ◌∙◌}
use mathlib.Core.Bool.{Bool, true, false, ◌&&◌, and-true, and-false}
use mathlib.Core.Option.{some}
use lib.ListN.{length, get_elem?}
use lib.Dec.{eqb, eqb-suc-suc, eqb-zero-suc, eqb-suc-zero}
use Rattle.model.specs.declared.Chunk.{Chunk}
use Rattle.model.specs.declared.Message.{Message}
use Rattle.model.specs.Lists.{when◌then◌else◌}
use Rattle.model.specs.Messages.{pieces, piece, cut, message_of}
use Rattle.model.specs.Rings.{bytes}
use Rattle.demands.specs.Words.{Each}
use Rattle.demands.specs.Rfc9260.{Ceiling, Fragmenting, bit, FlagsOctet}

-- ---- how many

pub length_cut : (x : Message) (b : Bool) (n m o l : ℕ) → length (cut x b n m o l) ≡ n
length_cut x b zero m o l = refl
length_cut x b (suc zero) m o l = refl
length_cut x b (suc (suc n)) m o l = ap suc (length_cut x false (suc n) m (o + m) (l - m))

-- the division that counts the pieces
pieces_divide : (l m : ℕ) → 1 ≤ m → (pieces l m * m + (l + (m - 1)) % m ≡ l + (m - 1)) × ((l + (m - 1)) % m < m)
pieces_divide l m h = (div-add-mod' (l + (m - 1)) m, mod-lt (l + (m - 1)) h)

pieces_ceiling : (l m : ℕ) → 1 ≤ m → Ceiling l m (pieces l m)
pieces_ceiling l m h =
    let d = pieces_divide l m h in
    record { enough = omega arith; no_more = λ k e. omega (arith, (div-lt_iff_lt-mul {k = m} {x = l + (m - 1)} {y = suc k} h).1 (omega arith)) }

-- l lies in the last of n + 1 pieces
pub pieces_fit : (l m n : ℕ) → 1 ≤ m → pieces l m ≡ suc n → (n * m < l) × (l ≤ suc n * m)
pieces_fit l m n h e = let d = rw e at (pieces_divide l m h) in (omega arith, omega arith)

pub pieces_none : (l m : ℕ) → 1 ≤ m → pieces l m ≡ 0 → l ≡ 0
pieces_none l m h e = let d = rw e at (pieces_divide l m h) in omega arith

-- ---- each

-- equal parts make equal fragments
same_piece : (x : Message) {b b' e e' : Bool} {o o' l l' : ℕ} → b ≡ b' → e ≡ e' → o ≡ o' → l ≡ l' → some (piece x b e o l) ≡ some (piece x b' e' o' l')
same_piece x p q r s = cc

fragment_at : (x : Message) (b : Bool) (n m o l i : ℕ) → i < n
    → get_elem? (cut x b n m o l) i ≡ some (piece x (b && eqb i 0) (eqb (suc i) n) (o + i * m) (when eqb (suc i) n then l - i * m else m))
fragment_at x b zero m o l i h = absurd (not-suc-le-zero h)
fragment_at x b (suc zero) m o l zero h = same_piece x (sym (and-true b)) refl (omega arith) (omega arith)
fragment_at x b (suc zero) m o l (suc i) h = absurd (omega arith)
fragment_at x b (suc (suc n)) m o l zero h =
    rw (eqb-suc-suc 0 (suc n), eqb-zero-suc n) (same_piece x (sym (and-true b)) refl (omega arith) refl)
fragment_at x b (suc (suc n)) m o l (suc i) h =
    fragment_at x false (suc n) m (o + m) (l - m) i (omega arith)
    ∙ rw (eqb-suc-suc (suc i) (suc n), eqb-suc-zero i) (same_piece x (sym (and-false b)) refl (omega arith) (ap (λ (k : ℕ). when eqb (suc i) (suc n) then k else m) (omega arith)))

-- every fragment has 1 to m bytes of the message, so what holds of all such holds of each
module _ (P : Chunk → Type 0) (x : Message) (m reach : ℕ) (least : 1 ≤ m)
    (all : (b e : Bool) (o l : ℕ) → 1 ≤ l → l ≤ m → o + l ≤ reach → P (piece x b e o l)) where
  each_of_cut : (b : Bool) (n o l : ℕ) → n * m < l → l ≤ suc n * m → o + l ≤ reach → Each P (cut x b (suc n) m o l)
  each_of_cut b zero o l i j k = (all b true o l (omega arith) (omega arith) k, tt)
  each_of_cut b (suc n) o l i j k = (all b false o m least (omega arith) (omega arith), each_of_cut false n (o + m) (l - m) (omega arith) (omega arith) (omega arith))

  pub each_fragment : (b : Bool) (o l : ℕ) → o + l ≤ reach → Each P (cut x b (pieces l m) m o l)
  each_fragment b o l k = go (pieces l m) refl
    where
      go : (n : ℕ) → pieces l m ≡ n → Each P (cut x b n m o l)
      go zero e = tt
      go (suc n) e = let f = pieces_fit l m n least e in each_of_cut b n o l f.0 f.1 k

-- ---- together

bytes_of_cut : (x : Message) (b : Bool) (n m o l : ℕ) → n * m < l → bytes (cut x b (suc n) m o l) ≡ l
bytes_of_cut x b zero m o l i = omega arith
bytes_of_cut x b (suc n) m o l i = omega (arith, bytes_of_cut x false n m (o + m) (l - m) (omega arith))

pub bytes_cut : (x : Message) (b : Bool) (m o l : ℕ) → 1 ≤ m → bytes (cut x b (pieces l m) m o l) ≡ l
bytes_cut x b m o l h = go (pieces l m) refl
  where
    go : (n : ℕ) → pieces l m ≡ n → bytes (cut x b n m o l) ≡ l
    go zero e = sym (pieces_none l m h e)
    go (suc n) e = bytes_of_cut x b n m o l (pieces_fit l m n h e).0

-- ---- the claims

pub fragmenting : Fragmenting
fragmenting p number offset len t h =
    let x = message_of p number t in
    let m = t.maximum in
    let n = length_cut x true (pieces len m) m offset len in
    record {
      count = rw n (pieces_ceiling len m h);
      fragment = λ i j. rw n (fragment_at x true (pieces len m) m offset len i (rw n at j));
      sizes = bytes_cut x true m offset len h;
    }

-- 1, 2 and 4 for three bits, read back one by one
octet : (e b u : Bool) → let x = bit e + (when b then 2 else 0) + (when u then 4 else 0) in (x % 2 ≡ bit e) × (x / 2 % 2 ≡ bit b) × (x / 4 ≡ bit u)
octet true true true = (refl, refl, refl)
octet true true false = (refl, refl, refl)
octet true false true = (refl, refl, refl)
octet true false false = (refl, refl, refl)
octet false true true = (refl, refl, refl)
octet false true false = (refl, refl, refl)
octet false false true = (refl, refl, refl)
octet false false false = (refl, refl, refl)

pub flags_octet : FlagsOctet
flags_octet c = octet c.ending c.beginning c.message.unordered
