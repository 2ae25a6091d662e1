-- An array whose elements are the answers of a closure that no call changes.
use Rattle.std.proofs.Common.{◌≡◌, ℕ, zero, suc, ◌+◌, ◌<◌, ◌≤◌, List, slice_index, subst, ◌∙◌, arith}
use Rattle.std.proofs.Math.Decide.{dec_lt}
use denote.Param.Members.{Mut}
use Rattle.std.specs.Fn.{Called}
use Rattle.std.specs.Array.{IsFromFnResultFrom}

module _ {F : Type 0} (g : Mut F (ℕ × Unit {0}) ℕ) (h : ℕ → ℕ) (f : F)
    (call : (k y : ℕ) (q : F) → Called g f (k, tt) y q → (y ≡ h k) × (q ≡ f))
  where
    -- the first of them, or one further on
    step : (ys : List ℕ) (i k : ℕ) → slice_index ys i ≡ h i → i ≤ k → (i + 1 ≤ k → slice_index ys k ≡ h k) → Dec (i < k) → slice_index ys k ≡ h k
    step ys i k e l rest (yes p) = rest (omega arith)
    step ys i k e l rest (no p) = let same : i ≡ k = omega arith in subst (λ (j : ℕ). slice_index ys j ≡ h j) same e

    pub answers : (ys : List ℕ) (i n : ℕ) → IsFromFnResultFrom g f ys i n → (k : ℕ) → i ≤ k → k < i + n → slice_index ys k ≡ h k
    answers ys i zero r k l m = absurd (omega arith)
    answers ys i (suc n) (q, y, e, c, r) k l m =
        step ys i k (e.1 0 ∙ (call i y q c).0) l
        (λ p. answers ys (i + 1) n (subst (λ (v : F). IsFromFnResultFrom g v ys (i + 1) n) (call i y q c).1 r) k p (omega arith)) (dec_lt i k)
