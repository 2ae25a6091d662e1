-- What holds of the float and of the exact value after a first measurement, and is kept by each later one, holds after any run of short measurements: no other call touches either, or both are blank again. Assumes nothing.
use Rattle.std.proofs.Common.{◌≡◌, ℕ, ◌+◌, ◌*◌, ◌^◌, ◌≤◌, Bool, true, false, cond, ◌⊎◌, List, [], ◌∷◌, sym, refl, ap, ◌∙◌, subst, inl, inr, Ok, Err, mul-le-mul_right, arith, lit≤, pow-add}
use lib.Ieee.{Float}
use Rattle.limits.specs.Limits.{setting_max}
use Rattle.limits.specs.declared.Refusal.TheVariants.{BeyondLimit}
use Rattle.rto.specs.declared.RtoManager.{RtoManager}
use Rattle.rto.specs.Rto.{f64, gap, next_srtt, first_var, next_var, renewed, settled, sampled, counts_first, rto_of, reset_of, given, beyond, fresh}
use Rattle.rto.specs.Calls.{Call, measure, get, reset, set, Outcome, of_measured, of_set, called, after}
use Rattle.rto.specs.Exact.{Exact, places, none, begun, grown, followed, exactly, Short}
use Rattle.rto.proofs.Cases.{taken, frozen}

-- ---- what every state of such a run has
abbrev pub Bounded : Exact → Type 0
Bounded x = x.num ≤ 60000 * 2 ^ places x.later

pub near : (s r : ℕ) → s ≤ 60000 → r ≤ 60000 → gap s r ≤ 60000
near s r h k = omega arith

more : (l : ℕ) → places (l + 1) ≡ places l + 2
more l = omega arith

pub quadruple : (l : ℕ) → 2 ^ places (l + 1) ≡ 2 ^ places l * 4
quadruple l = ap (λ (z : ℕ). 2 ^ z) (more l) ∙ pow-add 2 (places l) 2

average : (s r : ℕ) → s ≤ 60000 → r ≤ 60000 → next_srtt s r ≤ 60000
average s r h k = omega arith

twice : (r : ℕ) → r ≤ 60000 → r ≤ 60000 * 2
twice r h = omega arith

grows : (n p d q : ℕ) → n ≤ 60000 * p → d ≤ 60000 → q ≡ p * 4 → 3 * n + d * p ≤ 60000 * q
grows n p d q h k e = let m : d * p ≤ 60000 * p = mul-le-mul_right p k in omega arith

in_limit : (r : ℕ) → r ≤ 60000 → r ≤ setting_max
in_limit r h = omega arith

module _ (Q : Float → Exact → Type 0)
    (noneQ : Q (f64 0) none)
    (firstQ : (r : ℕ) → r ≤ 60000 → Q (first_var r) (begun r))
    (nextQ : (v : Float) (x : Exact) (s r : ℕ) → Bounded x → s ≤ 60000 → r ≤ 60000 → Q v x → Q (next_var v s r) (grown s x r))
  where
    -- the estimator's state and the exact one
    pub record Both (t : RtoManager) (x : Exact) : Type 0 where
      pub short : t.srtt ≤ 60000
      pub bound : Bounded x
      pub holds : Q t.rttvar x

    -- right after a sample: the RTO too
    pub record Sampled (t : RtoManager) (x : Exact) : Type 0 where
      pub both : Both t x
      pub given : t.rto ≡ rto_of t t.srtt t.rttvar

    blank : (t : RtoManager) → t.srtt ≡ 0 → t.rttvar ≡ f64 0 → Both t none
    blank t s v = record { short = rw s (lit≤ tt); bound = lit≤ tt; holds = rw v noneQ }

    -- whichever way the measurement counts
    taken_sample : (t : RtoManager) (x : Exact) (r : ℕ) → r ≤ 60000 → Both t x → Sampled (sampled t r) (cond (counts_first t) (begun r) (grown t.srtt x r))
    taken_sample t x r h b = go (counts_first t)
      where
        go : (c : Bool) → Sampled (cond c (settled t r (first_var r)) (settled t (next_srtt t.srtt r) (next_var t.rttvar t.srtt r))) (cond c (begun r) (grown t.srtt x r))
        go true = record { both = record { short = h; bound = twice r h; holds = firstQ r h }; given = refl }
        go false =
            record {
              both =
                  record {
                    short = average t.srtt r b.short h;
                    bound = grows x.num (2 ^ places x.later) (gap t.srtt r) (2 ^ places (x.later + 1)) b.bound (near t.srtt r b.short h) (quadruple x.later);
                    holds = nextQ t.rttvar x t.srtt r b.bound b.short h b.holds;
                  };
              given = refl;
            }

    pub measured_sample : (t : RtoManager) (x : Exact) (r : ℕ) → r ≤ 60000 → t.no_update ≡ false → Both t x → Sampled (called t (measure r)) (followed t x (measure r))
    measured_sample t x r h e b =
        let y = cond (counts_first t) (begun r) (grown t.srtt x r) in
        subst (λ (o : Outcome). Sampled o.state (followed t x (measure r))) (sym (ap of_measured (taken t r (in_limit r h) e)))
        (subst (λ (c : Bool). Sampled (sampled t r) (cond c x y)) (sym e) (taken_sample t x r h b))

    measured_frozen : (t : RtoManager) (x : Exact) (r : ℕ) → r ≤ 60000 → t.no_update ≡ true → Both t x → Both (called t (measure r)) (followed t x (measure r))
    measured_frozen t x r h e b =
        let y = cond (counts_first t) (begun r) (grown t.srtt x r) in
        subst (λ (o : Outcome). Both o.state (followed t x (measure r))) (sym (ap of_measured (frozen t r (in_limit r h) e)))
        (subst (λ (c : Bool). Both t (cond c x y)) (sym e) b)

    reset_both : (t : RtoManager) (x : Exact) (c : Bool) → Both t x → Both (cond c t (renewed t 0 (f64 0) t.rto_initial)) (cond c x none)
    reset_both t x true b = b
    reset_both t x false b = blank (renewed t 0 (f64 0) t.rto_initial) refl refl

    set_both : (t : RtoManager) (x : Exact) (y : ℕ) (c : Bool) → Both t x → Both (called t (set y c)) x
    set_both t x y c b = go (beyond y)
      where
        go : (f : Bool) → Both (of_set (cond f (Err BeyondLimit, t) (Ok (record {}), given t y c))).state x
        go true = b
        go false = record { short = b.short; bound = b.bound; holds = b.holds }

    either : (b : Bool) → (b ≡ true) ⊎ (b ≡ false)
    either true = inl refl
    either false = inr refl

    runs : (cs : List Call) (t : RtoManager) (x : Exact) → Short cs → Both t x → Both (after t cs) (exactly t x cs)
    runs [] t x h b = b
    runs (measure r ∷ cs) t x h b =
        runs cs (called t (measure r)) (followed t x (measure r)) h.1
        (elim (either t.no_update) [ inl e ↦ measured_frozen t x r h.0 e b | inr e ↦ (measured_sample t x r h.0 e b).both ])
    runs (get ∷ cs) t x h b = runs cs t x h b
    runs (reset ∷ cs) t x h b = runs cs (reset_of t) (followed t x reset) h (reset_both t x t.no_update b)
    runs (set y c ∷ cs) t x h b = runs cs (called t (set y c)) x h (set_both t x y c b)

    pub from_fresh : (initial lo hi : ℕ) (cs : List Call) → Short cs → Both (after (fresh initial lo hi) cs) (exactly (fresh initial lo hi) none cs)
    from_fresh initial lo hi cs h = runs cs (fresh initial lo hi) none h (blank (fresh initial lo hi) refl refl)
