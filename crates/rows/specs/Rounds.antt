-- A ring's contents where the room is the number of cells: `round start len xs`. Shut, so that a proof outside goes by these laws.
-- In each law `cap` is the number that the code has for the room, and `ys` are the cells after a change of one.
use Rattle.std.specs.Prelude.{◌≡◌, Bool, length, get_or, take, drop, ltb}
use Rattle.std.proofs.Common.{sym, ◌∙◌, mod-lt, arith, length-set, length-drop, take-take, lt-ltb, le-ltb}
use Rattle.std.proofs.Math.Path.{ap}
use Rattle.std.proofs.Math.Logic.{⊎_elim}
use Prim.Native.Nat.{ℕ, zero, suc, ◌+◌, ◌-◌, ◌%◌, ◌≤◌, ◌<◌, min}
use Rattle.std.proofs.Math.Nat.{sub-zero, zero-sub, suc-sub-suc, add-sub_cancel_left, zero-min, min-zero, suc-min-suc}
use mathlib.Core.List.{List, [], ◌∷◌, ◌++◌}
use Rattle.std.proofs.Math.ListN.{set, get_or-eq_default}
use Rattle.std.proofs.Math.Seq.{set_out, take-nil}
use Rattle.model.specs.Lists.{when◌then◌else◌, adjust}
use Rattle.rows.specs.Adjusts.{adjust_set}
use Rattle.rows.specs.Parts.{part}
use Rattle.rows.specs.View.{place_low, place_high, turned, view, lt_or_ge, length_turned, length_view, view_get, view_set, view_push, view_drop}

-- the cell of the i-th; past the end the number of cells, where there is none
abbrev pub cell_of : (cap start len i : ℕ) → ℕ
cell_of cap start len i = when ltb i (min len cap) then (start % cap + i) % cap else cap

cell_in : (cap start len i : ℕ) → i < min len cap → cell_of cap start len i ≡ (start % cap + i) % cap
cell_in cap start len i h = ap (λ (b : Bool). when b then (start % cap + i) % cap else cap) (lt-ltb i (min len cap) h)

cell_out : (cap start len i : ℕ) → min len cap ≤ i → cell_of cap start len i ≡ cap
cell_out cap start len i h = ap (λ (b : Bool). when b then (start % cap + i) % cap else cap) (le-ltb i (min len cap) h)

-- as code computes it, with no division: past the end, before the seam, past the seam
pub cell_past : (cap start len i : ℕ) → min len cap ≤ i → cap ≡ cell_of cap start len i
cell_past cap start len i h = sym (cell_out cap start len i h)

module _ (cap start len i s : ℕ) (e : s ≡ start % cap) (h : i < min len cap) where
  folded : s < cap
  folded = let z : 0 < cap = omega arith in omega (arith, mod-lt start z)

  here : (s + i) % cap ≡ cell_of cap start len i
  here = sym (cell_in cap start len i h ∙ ap (λ (k : ℕ). (k + i) % cap) (sym e))

  pub cell_low : s + i < cap → s + i ≡ cell_of cap start len i
  cell_low l = sym (place_low cap s i l) ∙ here

  pub cell_high : cap ≤ s + i → i - (cap - s) ≡ cell_of cap start len i
  cell_high l = let k : i < cap = omega arith in omega (arith, folded, place_high cap s i folded k l, here)

module _ {A : Type 0} where
  -- no more is taken than there is; and of two lists the second where the first ends
  take_min : (n : ℕ) (l : List A) → take n l ≡ take (min n (length l)) l
  take_min zero l = rw zero-min
  take_min (suc n) [] = rw min-zero
  take_min (suc n) (x ∷ l) = rw suc-min-suc (ap (λ (r : List A). x ∷ r) (take_min n l))

  take_join : (n : ℕ) (l m : List A) → take n (l ++ m) ≡ take n l ++ take (n - length l) m
  take_join n [] m = simp (take-nil, sub-zero)
  take_join zero (x ∷ l) m = rw zero-sub
  take_join (suc n) (x ∷ l) m = rw suc-sub-suc (ap (λ (r : List A). x ∷ r) (take_join n l m))

  -- the cells in order: `len` of them (all, where that is more), from cell `start` on (modulo their number), and round
  pub round : (start len : ℕ) → List A → List A
  round start len xs = view (length xs) start len xs

  module _ (cap start len : ℕ) (xs : List A) (e : length xs ≡ cap) where
    as_view : round start len xs ≡ view cap start len xs
    unfolding round
    as_view = ap (λ (n : ℕ). view n start len xs) e

    pub round_length : length (round start len xs) ≡ min len cap
    round_length = ap length as_view ∙ length_view cap start len xs e

    -- the cell of the i-th holds the i-th
    pub round_get : (i : ℕ) (d : A) → get_or xs (cell_of cap start len i) d ≡ get_or (round start len xs) i d
    round_get i d = ⊎_elim inside outside (lt_or_ge i (min len cap))
      where
        inside : i < min len cap → get_or xs (cell_of cap start len i) d ≡ get_or (round start len xs) i d
        inside h =
            ap (λ (k : ℕ). get_or xs k d) (cell_in cap start len i h) ∙ view_get cap start len xs e i d h ∙ ap (λ (r : List A). get_or r i d) (sym as_view)

        outside : min len cap ≤ i → get_or xs (cell_of cap start len i) d ≡ get_or (round start len xs) i d
        outside h =
            let z : length xs ≤ cap = omega arith in
            let y : length (round start len xs) ≤ i = omega (arith, round_length) in
            ap (λ (k : ℕ). get_or xs k d) (cell_out cap start len i h) ∙ get_or-eq_default xs d z ∙ sym (get_or-eq_default (round start len xs) d y)

    pub round_set : (i : ℕ) (a : A) (ys : List A) → ys ≡ set xs (cell_of cap start len i) a → round start len ys ≡ set (round start len xs) i a
    unfolding round
    round_set i a ys q = ap (round start len) q ∙ ⊎_elim inside outside (lt_or_ge i (min len cap))
      where
        inside : i < min len cap → round start len (set xs (cell_of cap start len i) a) ≡ set (round start len xs) i a
        inside h =
            ap (λ (k : ℕ). round start len (set xs k a)) (cell_in cap start len i h)
            ∙ ap (λ (n : ℕ). view n start len (set xs ((start % cap + i) % cap) a)) (length-set xs ((start % cap + i) % cap) a ∙ e)
            ∙ view_set cap start len xs e i a h ∙ ap (λ (r : List A). set r i a) (sym as_view)

        outside : min len cap ≤ i → round start len (set xs (cell_of cap start len i) a) ≡ set (round start len xs) i a
        outside h =
            let z : length xs ≤ cap = omega arith in
            let y : length (round start len xs) ≤ i = omega (arith, round_length) in
            ap (λ (k : ℕ). round start len (set xs k a)) (cell_out cap start len i h) ∙ ap (round start len) (set_out xs cap a z) ∙ sym (set_out (round start len xs) i a y)

    pub round_adjust : (f : A → A) (i : ℕ) (d : A) (ys : List A) → ys ≡ adjust f (cell_of cap start len i) xs → round start len ys ≡ adjust f i (round start len xs)
    round_adjust f i d ys q =
        let k = cell_of cap start len i in
        round_set i (f (get_or xs k d)) ys (q ∙ adjust_set f k xs d) ∙ ap (λ (a : A). set (round start len xs) i (f a)) (round_get i d) ∙ sym (adjust_set f i (round start len xs) d)

    -- a longer ring whose last is set
    pub round_push : (a : A) → len < cap → set (round start (len + 1) xs) len a ≡ round start len xs ++ (a ∷ [])
    unfolding round
    round_push a h =
        ap (λ (n : ℕ). set (view n start (len + 1) xs) len a) e ∙ view_push cap start len xs e a h ∙ ap (λ (r : List A). r ++ (a ∷ [])) (sym as_view)

    -- the k-th cell is the start, and the length that was read is k less
    pub round_drop : (d : A) (n s k : ℕ) → n ≡ min len cap → s ≡ start % cap → k ≤ n → round (s + k) (n - k) xs ≡ drop k (round start len xs)
    unfolding round
    round_drop d n s k p q h =
        ap (λ (c : ℕ). view c (s + k) (n - k) xs) e ∙ ap (λ (z : ℕ). view cap (z + k) (n - k) xs) q ∙ view_drop cap start len xs e d n k p h ∙ ap (drop k) (sym as_view)

    -- the cells from the start on, and those from cell 0 on where that passes the last
    pub round_parts : (n s : ℕ) → n ≡ min len cap → s ≡ start % cap → round start len xs ≡ part s (s + n) xs ++ part 0 (n - (cap - s)) xs
    round_parts n s p q =
        let k : min len (length (turned (start % cap) xs)) ≡ n = omega (arith, length_turned (start % cap) xs) in
        let b : length (drop s xs) ≡ cap - s = omega (arith, length-drop s xs) in
        let h : n - (cap - s) ≤ s = omega arith in
        rw (add-sub_cancel_left, sub-zero)
        (as_view ∙ take_min len (turned (start % cap) xs) ∙ ap (λ (j : ℕ). take j (turned (start % cap) xs)) k ∙ ap (λ (j : ℕ). take n (turned j xs)) (sym q)
        ∙ take_join n (drop s xs) (take s xs) ∙ ap (λ (j : ℕ). take n (drop s xs) ++ take (n - j) (take s xs)) b
        ∙ ap (λ (r : List A). take n (drop s xs) ++ r) (take-take (n - (cap - s)) s xs h))
