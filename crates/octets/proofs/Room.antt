-- What is read and written from `at` on, as far as there is room.
use Rattle.std.proofs.Common.{◌≡◌, sym, ap, ◌∙◌, List, ℕ, ◌+◌, ◌-◌, ◌<◌, ◌++◌, min, length, take, drop, arith, append_assoc, length-take-le, take-append-drop}
use Rattle.std.proofs.lemmas.List.{drop-drop, get_or-drop, take_all, length-drop}
use Rattle.std.proofs.lemmas.List.Edits.{sets, sets-eq}
use Rattle.std.proofs.Math.Decide.{dec_lt}
use borrow.Rule.Slice.PartMut.{put_mid}
use Rattle.octets.specs.Numbers.{byte_at, byte_past}
use Rattle.octets.specs.Puts.{placed_all, sets_past}

module _ {A : Type 0} (us ws : List A) (at start n : ℕ) where
  room_of : start ≡ min at (length ws) → n ≡ min (length us) (length ws - start) → Dec (at < length ws) → put_mid start n ws (take n us) ≡ sets ws at us
  room_of s e (yes h) =
      let a : start ≡ at = omega arith in
      let l : length (take n us) ≡ n = length-take-le n us (omega arith) in
      ap (λ (i : ℕ). put_mid i n ws (take n us)) a
      ∙ ap (λ (r : List A). take at ws ++ (take n us ++ r)) (drop-drop n at ws ∙ ap (λ (i : ℕ). drop (at + i) ws) (sym l))
      ∙ sym (append_assoc (take at ws) (take n us) (drop (at + length (take n us)) ws))
      ∙ sym (sets-eq (take n us) ws at (omega arith)) ∙ placed_all us ws at n (omega arith)
  room_of s e (no h) =
      let none : n ≡ 0 = omega arith in
      ap (λ (i : ℕ). put_mid start i ws (take i us)) none ∙ take-append-drop start ws ∙ sym (sets_past us ws at (omega arith))

  pub room : {ys : List A} → start ≡ min at (length ws) → n ≡ min (length us) (length ws - start) → ys ≡ take n us → put_mid start n ws ys ≡ sets ws at us
  room s e y = ap (put_mid start n ws) y ∙ room_of s e (dec_lt at (length ws))

-- a byte of what lies from `at` on
pub byte_in_rest : (l : List ℕ) (at start i y : ℕ) → start ≡ min at (length l) → y ≡ byte_at i (take (length l - start) (drop start l)) → y ≡ byte_at (at + i) l
byte_in_rest l at start i y s e =
    let whole = take_all (length l - start) (drop start l) (omega (arith, length-drop start l)) in
    e ∙ ap (byte_at i) whole ∙ get_or-drop start l i 0 ∙ by_end (dec_lt (length l) at)
  where
    by_end : Dec (length l < at) → byte_at (start + i) l ≡ byte_at (at + i) l
    by_end (yes h) = byte_past (start + i) l (omega arith) ∙ sym (byte_past (at + i) l (omega arith))
    by_end (no h) = let same : start ≡ at = omega arith in ap (λ (k : ℕ). byte_at (k + i) l) same
