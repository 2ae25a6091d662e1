-- Where a call is refused, the definition answers with the old state; its refusal is that of the test that failed. Assumes nothing.
use Rattle.std.proofs.Common.{◌≡◌, ℕ, Bool, true, false, cond, ◌||◌, ltb, ◌⊎◌, refl, inl, inr, Result, Ok, Err}
use Rattle.limits.specs.declared.Refusal.{Refusal}
use Rattle.limits.specs.declared.Refusal.TheVariants.{BeyondLimit, BadBounds}
use Rattle.rto.specs.declared.RtoManager.{RtoManager}
use Rattle.rto.specs.Rto.{Answered, beyond, sampled, given}
use Rattle.rto.specs.Calls.{measure, get, reset, set, Outcome, refused, of_measured, of_set, RefusedKeeps, RefusalsAreListed}

-- an outcome that is done, or gives its number only
abbrev Keeps : RtoManager → Outcome → Type 0
Keeps t o = (o.number ≡ 0 → ⊥) → o ≡ refused o.number t

measured : (t u : RtoManager) (s r : ℕ) (b c : Bool) → Keeps t (of_measured (cond b (Err BeyondLimit, t) (cond c (Ok s, t) (Ok r, u))))
measured t u s r true c h = refl
measured t u s r false true h = absurd (h refl)
measured t u s r false false h = absurd (h refl)

stored : (t u : RtoManager) (b : Bool) → Keeps t (of_set (cond b (Err BeyondLimit, t) (Ok (record {}), u)))
stored t u true h = refl
stored t u false h = absurd (h refl)

pub refused_keeps : RefusedKeeps
refused_keeps t (measure r) h = measured t (sampled t r) t.srtt (sampled t r).srtt (beyond r) t.no_update h
refused_keeps t get h = absurd (h refl)
refused_keeps t reset h = absurd (h refl)
refused_keeps t (set x b) h = stored t (given t x b) (beyond x) h

-- ---- the refusals

-- a test decides between two answers
either : {A : Type 0} (P : A → Type 0) (b : Bool) {x y : A} → P x → P y → P (cond b x y)
either P true p q = p
either P false p q = q

pub refusals_are_listed : RefusalsAreListed
refusals_are_listed =
    record {
      creation = λ initial lo hi n.
          let P : Result RtoManager Refusal → Type 0 = λ m. m ≡ Err n → (n ≡ BeyondLimit) ⊎ (n ≡ BadBounds) in
          either P (beyond initial || beyond lo || beyond hi) (λ e. inl cc) (either P (ltb hi lo) (λ e. inr cc) (λ e. inl cc));
      measuring = λ t r n.
          let P : Answered ℕ → Type 0 = λ m. m.0 ≡ Err n → n ≡ BeyondLimit in
          either P (beyond r) (λ e. cc) (either P t.no_update (λ e. cc) (λ e. cc));
      setting = λ t x b n. either (λ (m : Answered (Unit {0})). m.0 ≡ Err n → n ≡ BeyondLimit) (beyond x) (λ e. cc) (λ e. cc);
    }
