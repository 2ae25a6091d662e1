-- What a usual state has. Assumes nothing.
use Rattle.std.proofs.Common.{◌≡◌, ◌≤◌, Bool, true, false, cond, negsuc, sym, refl, true≢false, ltb-false}
use lib.Ieee.{fin, le}
use borrow.Author.Tests.{eqb-false}
use Rattle.limits.specs.Limits.{setting_max}
use Rattle.rto.specs.declared.RtoManager.{RtoManager}
use Rattle.rto.specs.Rto.{counts_first, beyond}
use Rattle.rto.specs.Usual.{Usual, is_usual}

-- what the tests of `is_usual` show, one by one
pub record UsualState (t : RtoManager) : Type 0 where
  pub updates : t.no_update ≡ false
  pub later : t.srtt ≡ 0 → ⊥
  pub near : t.srtt ≤ setting_max
  pub usual : Usual t.rttvar

-- where a chain of tests says yes, each has let it pass
left : (b x : Bool) → cond b false x ≡ true → (b ≡ false) × (x ≡ true)
left true x e = absurd (true≢false (sym e))
left false x e = (refl, e)

right : (b x : Bool) → cond b x false ≡ true → (b ≡ true) × (x ≡ true)
right true x e = (refl, e)
right false x e = absurd (true≢false (sym e))

module _ (t : RtoManager) (e : is_usual t ≡ true) where
  pub usual_state : UsualState t
  usual_state =
      let a = left t.no_update _ e in
      let b = left (counts_first t) _ a.1 in
      let c = left (beyond t.srtt) _ b.1 in
      let d = right (le (fin false 1 (negsuc 2)) t.rttvar) _ c.1 in
      record {
        updates = a.0;
        later = eqb-false t.srtt 0 b.0;
        near = ltb-false setting_max t.srtt c.0;
        usual = record { least = d.0; most = d.1 };
      }
