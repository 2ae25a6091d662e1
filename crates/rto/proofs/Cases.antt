-- `measured_of` and `sampled`, by the cases that their tests part. Assumes nothing.
use Rattle.std.proofs.Common.{◌≡◌, ℕ, ◌≤◌, true, false, Ok, le-ltb, eq-eqb, ne_eqb}
use Rattle.limits.specs.Limits.{setting_max}
use Rattle.rto.specs.declared.RtoManager.{RtoManager}
use Rattle.rto.specs.Rto.{sampled, settled, first_var, next_var, next_srtt, measured_of}

module _ (t : RtoManager) (r : ℕ) where
  pub taken : r ≤ setting_max → t.no_update ≡ false → measured_of t r ≡ (Ok (sampled t r).srtt, sampled t r)
  taken h e = simp (le-ltb setting_max r h, e)

  pub frozen : r ≤ setting_max → t.no_update ≡ true → measured_of t r ≡ (Ok t.srtt, t)
  frozen h e = simp (le-ltb setting_max r h, e)

  pub first : t.srtt ≡ 0 → sampled t r ≡ settled t r (first_var r)
  first e = simp (eq-eqb t.srtt 0 e)

  pub next : (t.srtt ≡ 0 → ⊥) → sampled t r ≡ settled t (next_srtt t.srtt r) (next_var t.rttvar t.srtt r)
  next e = simp (ne_eqb t.srtt 0 e)
