-- An element joins the end of a list, where that is below a room.
use Rattle.std.specs.Prelude.{◌≡◌, Bool, List, [], ◌∷◌, ◌++◌, ℕ, ◌≤◌, ◌<◌, length, ltb}
use Rattle.std.proofs.Common.{sym, ap, lt-ltb, le-ltb}
use Rattle.model.specs.Lists.{when◌then◌else◌}

-- behind the others where there is room; else the list stays
abbrev pub pushed : {A : Type 0} → (room : ℕ) → List A → A → List A
pushed room l x = when ltb (length l) room then l ++ (x ∷ []) else l

module _ {A : Type 0} (room : ℕ) (l : List A) (x : A) where
  pub pushed_room : length l < room → l ++ (x ∷ []) ≡ pushed room l x
  pushed_room h = sym (ap (λ (b : Bool). when b then l ++ (x ∷ []) else l) (lt-ltb (length l) room h))

  pub pushed_full : room ≤ length l → l ≡ pushed room l x
  pushed_full h = sym (ap (λ (b : Bool). when b then l ++ (x ∷ []) else l) (le-ltb (length l) room h))
