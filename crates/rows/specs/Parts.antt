-- Parts of a list: `part a b ws` is what `&cells[a..b]` lends, and `patch a b ws p` is the whole once `&mut cells[a..b]` came back as p.
--     patch-length     the whole is as long as it was
--     part_same        the part that came back is what came back
--     part-before, part-after     and every other part is as it was
--     patch-own        and the whole is, once the part came back as it was
use Rattle.std.specs.Prelude.{◌≡◌, ℕ, ◌+◌, ◌-◌, ◌≤◌, List, ◌++◌, length, take, drop}
use Rattle.std.proofs.Common.{sym, ap, ◌∙◌, arith, append_assoc, length-append, length-take, length-drop, take-append-drop, length-take-le, take_at, drop_at, drop-drop}
use Rattle.std.proofs.lemmas.List.{take-append-le, drop-append-le}

module _ {A : Type 0} where
  abbrev pub part : ℕ → ℕ → List A → List A
  part a b ws = take (b - a) (drop a ws)

  abbrev pub patch : ℕ → ℕ → List A → List A → List A
  patch a b ws p = take a ws ++ (p ++ drop (b - a) (drop a ws))

  pub part_length : (a b : ℕ) (ws : List A) → b ≤ length ws → length (part a b ws) ≡ b - a
  part_length a b ws h = simp (length-take, length-drop) (omega arith)

  pub patch_own : (a b : ℕ) (ws : List A) → patch a b ws (part a b ws) ≡ ws
  patch_own a b ws = ap (λ (r : List A). take a ws ++ r) (take-append-drop (b - a) (drop a ws)) ∙ take-append-drop a ws

  -- what stands before a part does not depend on what follows
  front : (a c d : ℕ) (ws rest : List A) → c ≤ d → d ≤ a → a ≤ length ws → part c d (take a ws ++ rest) ≡ part c d (take a ws)
  front a c d ws rest cd da h =
      let e : length (take a ws) ≡ a = length-take-le a ws h in
      let l : c ≤ length (take a ws) = omega arith in
      let k : d - c ≤ length (drop c (take a ws)) = simp length-drop (omega arith) in
      ap (take (d - c)) (drop-append-le c (take a ws) rest l) ∙ take-append-le (d - c) (drop c (take a ws)) rest k

  module _ (a b : ℕ) (ws p : List A) (ab : a ≤ b) (fits : b ≤ length ws) (e : length p ≡ b - a) where
    start : length (take a ws) ≡ a
    start = let h : a ≤ length ws = omega arith in length-take-le a ws h

    pub patch_length : length (patch a b ws p) ≡ length ws
    patch_length = simp (length-append, length-drop) (omega (arith, start))

    pub part_same : part a b (patch a b ws p) ≡ p
    part_same = ap (take (b - a)) (drop_at (take a ws) (p ++ drop (b - a) (drop a ws)) a start) ∙ take_at p (drop (b - a) (drop a ws)) (b - a) e

    pub part_before : (c d : ℕ) → c ≤ d → d ≤ a → part c d (patch a b ws p) ≡ part c d ws
    part_before c d cd da =
        let h : a ≤ length ws = omega arith in
        front a c d ws (p ++ drop (b - a) (drop a ws)) cd da h ∙ sym (front a c d ws (drop a ws) cd da h) ∙ ap (part c d) (take-append-drop a ws)

    rest : drop b (patch a b ws p) ≡ drop b ws
    rest =
        let n : length (take a ws ++ p) ≡ b = simp length-append (omega (arith, start)) in
        let m : a + (b - a) ≡ b = omega arith in
        ap (drop b) (sym (append_assoc (take a ws) p (drop (b - a) (drop a ws)))) ∙ drop_at (take a ws ++ p) (drop (b - a) (drop a ws)) b n
        ∙ drop-drop (b - a) a ws ∙ ap (λ (k : ℕ). drop k ws) m

    pub part_after : (c d : ℕ) → b ≤ c → part c d (patch a b ws p) ≡ part c d ws
    part_after c d bc =
        let m : b + (c - b) ≡ c = omega arith in
        ap (λ (k : ℕ). take (d - c) (drop k (patch a b ws p))) (sym m) ∙ ap (take (d - c)) (sym (drop-drop (c - b) b (patch a b ws p)) ∙ ap (drop (c - b)) rest ∙ drop-drop (c - b) b ws)
        ∙ ap (λ (k : ℕ). take (d - c) (drop k ws)) m
