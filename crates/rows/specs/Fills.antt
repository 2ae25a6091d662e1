-- A loop that writes a list into the front of lent cells, one element a turn: `now` are the cells when k elements of ts stand there, and `rest` is what is still to come.
use Rattle.std.specs.Prelude.{◌≡◌, refl, ℕ, zero, suc, ◌+◌, ◌≤◌, ◌<◌, length, set, take, drop}
use Rattle.std.proofs.Common.{sym, ap, ◌∙◌, not-suc-le-zero, le_of_suc-le-suc, add-one, arith, length-append, length-take, length-drop, take_all}
use mathlib.Core.List.{List, [], ◌∷◌, ◌++◌, nil≢cons, head-eq_of_cons-eq, tail-eq_of_cons-eq}

pub record Filled (A : Type 0) (ts cells : List A) (k : ℕ) (now rest : List A) : Type 0 where
  pub stand : now ≡ take k ts ++ drop k cells
  pub left : drop k ts ≡ rest
  pub within : k ≤ length ts

module _ {A : Type 0} where
  pub fill_start : (ts cells : List A) → Filled A ts cells 0 cells ts
  fill_start ts cells = record { stand = refl; left = refl; within = omega arith }

  fill_suc : (k : ℕ) (ts cells rest : List A) (x : A) → drop k ts ≡ x ∷ rest → length ts ≤ length cells
      → (set (take k ts ++ drop k cells) k x ≡ take (suc k) ts ++ drop (suc k) cells) × (drop (suc k) ts ≡ rest)
  fill_suc zero [] cells rest x q h = absurd (nil≢cons q)
  fill_suc (suc k) [] cells rest x q h = absurd (nil≢cons q)
  fill_suc zero (y ∷ ts) [] rest x q h = absurd (not-suc-le-zero h)
  fill_suc (suc k) (y ∷ ts) [] rest x q h = absurd (not-suc-le-zero h)
  fill_suc zero (y ∷ ts) (z ∷ cells) rest x q h = (ap (λ (a : A). a ∷ cells) (sym (head-eq_of_cons-eq q)), tail-eq_of_cons-eq q)
  fill_suc (suc k) (y ∷ ts) (z ∷ cells) rest x q h =
      let r = fill_suc k ts cells rest x q (le_of_suc-le-suc h) in
      (ap (λ (l : List A). y ∷ l) r.0, r.1)

  module _ {ts cells : List A} {k : ℕ} {now : List A} where
    pub fill_below : {rest : List A} {x : A} → Filled A ts cells k now (x ∷ rest) → k < length ts
    fill_below f = omega (arith, ap length f.left, length-drop k ts)

    pub fill_turn : {rest : List A} {x : A} → length ts ≤ length cells → Filled A ts cells k now (x ∷ rest) → Filled A ts cells (k + 1) (set now k x) rest
    fill_turn {rest} {x} h f =
        let r = fill_suc k ts cells rest x f.left h in
        record {
          stand = ap (λ (l : List A). set l k x) f.stand ∙ r.0 ∙ ap (λ (n : ℕ). take n ts ++ drop n cells) (sym (add-one k));
          left = ap (λ (n : ℕ). drop n ts) (add-one k) ∙ r.1;
          within = omega (arith, fill_below f);
        }

    pub fill_length : {rest : List A} → length ts ≤ length cells → Filled A ts cells k now rest → length now ≡ length cells
    fill_length h f = ap length f.stand ∙ simp (length-append, length-take, length-drop) (omega (arith, f.within))

    pub fill_all : Filled A ts cells k now [] → k ≡ length ts
    fill_all f = omega (arith, ap length f.left, length-drop k ts, f.within)

    pub fill_done : Filled A ts cells k now [] → now ≡ ts ++ drop (length ts) cells
    fill_done f = f.stand ∙ ap (λ (n : ℕ). take n ts ++ drop n cells) (fill_all f) ∙ ap (λ (l : List A). l ++ drop (length ts) cells) (take_all (length ts) ts (omega arith))

  -- the same fact where what is to come is known by an equation
  pub fill_as : {ts cells now rest other : List A} {k : ℕ} → rest ≡ other → Filled A ts cells k now rest → Filled A ts cells k now other
  fill_as q f = record { stand = f.stand; left = f.left ∙ q; within = f.within }

  -- and where the count and the cells are, as where two ways have met
  pub fill_met : {ts cells now other rest : List A} {k m : ℕ} → m ≡ k → other ≡ now → Filled A ts cells k now rest → Filled A ts cells m other rest
  fill_met {ts} {cells} e q f =
      record { stand = q ∙ f.stand ∙ ap (λ (n : ℕ). take n ts ++ drop n cells) (sym e); left = ap (λ (n : ℕ). drop n ts) e ∙ f.left; within = omega (arith, f.within) }
