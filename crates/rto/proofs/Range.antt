-- Every bound is a float: 6 x 2 ^ 32, 2 ^ 33, 2 ^ 35, 2 ^ 34 and 2 ^ 32, so a step leaves rttvar where it was, within 2 ^ 32; and the calls keep the rest by their refusals. Assumes nothing.
use Rattle.std.proofs.Common.{◌≡◌, ℕ, ◌+◌, ◌*◌, ◌^◌, ◌<◌, ◌≤◌, Bool, true, false, cond, ◌||◌, ltb, List, [], ◌∷◌, refl, Ok, Err, zero-lt-suc, arith, lit≤, ltb-false}
use lib.Ieee.{Float, binary64, mul}
use Rattle.limits.specs.Limits.{setting_max}
use Rattle.limits.specs.declared.Refusal.TheVariants.{BeyondLimit, BadBounds}
use Rattle.rto.specs.declared.RtoManager.{RtoManager}
use Rattle.rto.specs.Rto.{f64, gap, first_var, next_var, next_srtt, weighed, four_times, clamp, renewed, settled, counts_first, sampled, given, fresh, beyond}
use Rattle.rto.specs.Calls.{number_of, Accepted, Call, measure, get, reset, set, of_measured, of_set, called, after}
use Rattle.rto.specs.Range.{AtMost, StateInRange, StepInRange, InRange}
use Rattle.rto.proofs.AtMost.{number, product, sum, quotient, cast}

-- ---- the floats of one measurement
close : (s r : ℕ) → s ≤ setting_max → r ≤ setting_max → gap s r ≤ 2 ^ 32
close s r h k = omega arith

half_limit : (r : ℕ) → r ≤ setting_max → r ≤ 2 ^ 32 * 2
half_limit r h = omega arith

first_most : (r : ℕ) → r ≤ setting_max → AtMost (first_var r) (2 ^ 32)
unfolding first_var
first_most r h = quotient (f64 r) (2 ^ 32) 2 (zero-lt-suc 1) (lit≤ tt) (lit≤ tt) (number r (2 ^ 32 * 2) (half_limit r h) (lit≤ tt))

six_most : (v : Float) → AtMost v (2 ^ 32) → AtMost (mul binary64 (f64 6) v) (6 * 2 ^ 32)
six_most v h = product (f64 6) v 6 (2 ^ 32) (lit≤ tt) (number 6 6 (lit≤ tt) (lit≤ tt)) h

four_most : (v : Float) → AtMost v (2 ^ 32) → AtMost (mul binary64 (f64 4) v) (2 ^ 34)
four_most v h = product (f64 4) v 4 (2 ^ 32) (lit≤ tt) (number 4 4 (lit≤ tt) (lit≤ tt)) h

module _ (s r : ℕ) (S : s ≤ setting_max) (R : r ≤ setting_max) where
  two_most : AtMost (mul binary64 (f64 2) (f64 (gap s r))) (2 ^ 33)
  two_most = product (f64 2) (f64 (gap s r)) 2 (2 ^ 32) (lit≤ tt) (number 2 2 (lit≤ tt) (lit≤ tt)) (number (gap s r) (2 ^ 32) (close s r S R) (lit≤ tt))

  weighed_most : (v : Float) → AtMost v (2 ^ 32) → AtMost (weighed v s r) (2 ^ 35)
  weighed_most v h = sum (mul binary64 (f64 6) v) (mul binary64 (f64 2) (f64 (gap s r))) (6 * 2 ^ 32) (2 ^ 33) (lit≤ tt) (six_most v h) two_most

  next_most : (v : Float) → AtMost v (2 ^ 32) → AtMost (next_var v s r) (2 ^ 32)
  unfolding next_var
  next_most v h = quotient (weighed v s r) (2 ^ 32) 8 (zero-lt-suc 7) (lit≤ tt) (lit≤ tt) (weighed_most v h)

  average : next_srtt s r ≤ setting_max
  average = omega arith

-- ---- what each call keeps
in_clamp : (lo hi x : ℕ) → lo ≤ hi → hi ≤ setting_max → clamp lo hi x ≤ setting_max
in_clamp lo hi x h k = omega arith

renewed_in : (t : RtoManager) (s : ℕ) (v : Float) (x : ℕ) → StateInRange t → s ≤ setting_max → AtMost v (2 ^ 32) → x ≤ setting_max → StateInRange (renewed t s v x)
renewed_in t s v x h S A X =
    record { srtt = S; rttvar = A; rto = X; initial = h.initial; maximum = h.maximum; ordered = h.ordered }

sampled_in : (t : RtoManager) (r : ℕ) → r ≤ setting_max → StateInRange t → StateInRange (sampled t r)
sampled_in t r R h = go (counts_first t)
  where
    settled_in : (s : ℕ) (v : Float) → s ≤ setting_max → AtMost v (2 ^ 32) → StateInRange (settled t s v)
    settled_in s v S A = renewed_in t s v (clamp t.rto_min t.rto_max (s + four_times v)) h S A (in_clamp t.rto_min t.rto_max (s + four_times v) h.ordered h.maximum)

    go : (c : Bool) → StateInRange (cond c (settled t r (first_var r)) (settled t (next_srtt t.srtt r) (next_var t.rttvar t.srtt r)))
    go true = settled_in r (first_var r) R (first_most r R)
    go false = settled_in (next_srtt t.srtt r) (next_var t.rttvar t.srtt r) (average t.srtt r h.srtt R) (next_most t.srtt r h.srtt R t.rttvar h.rttvar)

zero_most : AtMost (f64 0) (2 ^ 32)
zero_most = number 0 (2 ^ 32) (lit≤ tt) (lit≤ tt)

called_in : (t : RtoManager) (c : Call) → StateInRange t → StateInRange (called t c)
called_in t (measure r) h = go (beyond r) t.no_update (ltb-false setting_max r)
  where
    go : (f n : Bool) → (f ≡ false → r ≤ setting_max)
        → StateInRange (of_measured (cond f (Err BeyondLimit, t) (cond n (Ok t.srtt, t) (Ok (sampled t r).srtt, sampled t r)))).state
    go true n k = h
    go false true k = h
    go false false k = sampled_in t r (k refl) h
called_in t get h = h
called_in t reset h = go t.no_update
  where
    go : (n : Bool) → StateInRange (cond n t (renewed t 0 (f64 0) t.rto_initial))
    go true = h
    go false = renewed_in t 0 (f64 0) t.rto_initial h (lit≤ tt) zero_most h.initial
called_in t (set x b) h = go (beyond x) (ltb-false setting_max x)
  where
    go : (f : Bool) → (f ≡ false → x ≤ setting_max) → StateInRange (of_set (cond f (Err BeyondLimit, t) (Ok (record {}), given t x b))).state
    go true k = h
    go false k = record { srtt = h.srtt; rttvar = h.rttvar; rto = k refl; initial = h.initial; maximum = h.maximum; ordered = h.ordered }

after_in : (cs : List Call) (t : RtoManager) → StateInRange t → StateInRange (after t cs)
after_in [] t h = h
after_in (c ∷ cs) t h = after_in cs (called t c) (called_in t c h)

fresh_in : (initial lo hi : ℕ) → Accepted initial lo hi → StateInRange (fresh initial lo hi)
fresh_in initial lo hi = go (beyond initial) (beyond lo) (beyond hi) (ltb hi lo) (ltb-false setting_max initial) (ltb-false setting_max hi) (ltb-false hi lo)
  where
    not_one : ◌≡◌ {A = ℕ} 1 0 → ⊥
    not_one e = omega arith

    not_two : ◌≡◌ {A = ℕ} 2 0 → ⊥
    not_two e = omega arith

    go : (a b c d : Bool) → (a ≡ false → initial ≤ setting_max) → (c ≡ false → hi ≤ setting_max) → (d ≡ false → lo ≤ hi)
        → number_of (cond (a || b || c) (Err BeyondLimit) (cond d (Err BadBounds) (Ok (fresh initial lo hi)))) ≡ 0 → StateInRange (fresh initial lo hi)
    go true b c d A C D e = absurd (not_one e)
    go false true c d A C D e = absurd (not_one e)
    go false false true d A C D e = absurd (not_one e)
    go false false false true A C D e = absurd (not_two e)
    go false false false false A C D e = record { srtt = lit≤ tt; rttvar = zero_most; rto = A refl; initial = A refl; maximum = C refl; ordered = D refl }

-- ---- the steps of the next measurement
module _ (t : RtoManager) (r : ℕ) (h : StateInRange t) (R : r ≤ setting_max) where
  abbrev u : RtoManager
  u = sampled t r

  u_in : StateInRange u
  u_in = sampled_in t r R h

  spread : four_times u.rttvar ≤ 2 ^ 34
  unfolding four_times
  spread = cast (mul binary64 (f64 4) u.rttvar) (2 ^ 34) (four_most u.rttvar u_in.rttvar)

  short : (s : ℕ) → s ≤ setting_max → s < 2 ^ 63
  short s k = omega arith

  seven_fits : (s : ℕ) → s ≤ setting_max → 7 * s + r < 2 ^ 64
  seven_fits s k = omega arith

  sum_fits : (s q : ℕ) → s ≤ setting_max → q ≤ 2 ^ 34 → s + q < 2 ^ 64
  sum_fits s q k l = omega arith

  step_in : StepInRange t r
  step_in =
      record {
        srtt_i64 = short t.srtt h.srtt;
        rtt_i64 = short r R;
        six = six_most t.rttvar h.rttvar;
        two = two_most t.srtt r h.srtt R;
        sum = weighed_most t.srtt r h.srtt R t.rttvar h.rttvar;
        seven = seven_fits t.srtt h.srtt;
        four = four_most u.rttvar u_in.rttvar;
        rto = sum_fits u.srtt (four_times u.rttvar) u_in.srtt spread;
      }

pub in_range : InRange
in_range initial lo hi cs a =
    let t = after (fresh initial lo hi) cs in
    let h : StateInRange t = after_in cs (fresh initial lo hi) (fresh_in initial lo hi a) in
    (h, λ r k. step_in t r h k)
