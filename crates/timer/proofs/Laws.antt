-- What the functions' proofs share: a timer's place is one of six, deadlines have a smallest, doubling up to rto_max gives the smaller of it and the whole, and no
-- back-off is above it. Assumes nothing.
use mathlib.Core.Path.{◌≡◌, refl, sym, ap, ◌∙◌}
use mathlib.Core.List.{List, [], ◌∷◌, map}
use mathlib.Core.Bool.{Bool, true, false, cond, ◌&&◌}
use Prim.Native.Nat.{ℕ, zero, suc, ◌+◌, ◌-◌, ◌*◌, ◌^◌, ◌≤◌, ◌<◌, min}
use native.Mathlib.Nat.{add-mul, mul_assoc, pow-suc, min-le_right, le_trans}
use native.Mathlib.Numerals.{add-one}
use native.Mathlib.Omega.{arith}
use borrow.Author.Tests.{leb-true, ltb-true, ltb-false, lt-ltb, le-ltb}
use lib.Dec.{lit<, leb, ltb, eqb}
use lib.ListN.{get_or, drop, length}
use lib.Seq.{drop-cons, set-get_or}
use Rattle.limits.specs.Limits.{clock_max, setting_max, count_max}
use Rattle.timer.specs.declared.Timer.{Timer}
use Rattle.timer.specs.declared.Timer.TheVariants.{T1Init, T1Cookie, T2Shutdown, T3RTX, Reconfig, Ack}
use Rattle.std.specs.Prelude.{Some, None, Err}
use Rattle.std.specs.List.{fold}
use Rattle.limits.specs.declared.Refusal.TheVariants.{BeyondLimit, CountFull}
use Rattle.timer.specs.declared.Entry.{Entry}
use Rattle.timer.specs.declared.TimerTable.{TimerTable}
use Rattle.limits.specs.Moments.{Moment, passed, earlier}
use Rattle.timer.specs.Entries.{place, order, idle_entry, fails_at}
use Rattle.timer.specs.Timers.{entry_of, with_entry, with_count, with_suppression, backoff, doubling, wait_of}
use Rattle.timer.specs.Calls.{Checked, checked, denied, told, expiry, get_of, soonest, startable, is_expired_of, answer_of, left_of}

pub place_below : (timer : Timer) → place timer < 6
place_below T1Init = lit< tt
place_below T1Cookie = lit< tt
place_below T2Shutdown = lit< tt
place_below T3RTX = lit< tt
place_below Reconfig = lit< tt
place_below Ack = lit< tt

pub earlier_absent : (d : Moment) → earlier d None ≡ d
earlier_absent None = refl
earlier_absent (Some x) = refl

least : (x y z : ℕ) → min (min x y) z ≡ min x (min y z)
least x y z = omega arith

earlier_assoc : (a b d : Moment) → earlier (earlier a b) d ≡ earlier a (earlier b d)
earlier_assoc None b d = refl
earlier_assoc (Some x) None d = refl
earlier_assoc (Some x) (Some y) None = refl
earlier_assoc (Some x) (Some y) (Some z) = ap Some (least x y z)

-- the smallest deadline from a place on: that of the timer there, and the smallest after it
pub one_more : (t : TimerTable) (i : ℕ) (next : Moment) → i < length order →
    earlier (earlier next (get_of t (get_or order i T1Init))) (soonest (map (get_of t) (drop (i + 1) order))) ≡ earlier next (soonest (map (get_of t) (drop i order)))
one_more t i next h =
    earlier_assoc next (get_of t (get_or order i T1Init)) (soonest (map (get_of t) (drop (i + 1) order)))
    ∙ rw (add-one, drop-cons order i T1Init h)

both : (a b : Bool) → a && b ≡ true → (a ≡ true) × (b ≡ true)
both true b e = (refl, e)
both false b e = (e, let z : ◌≡◌ {A = Bool} b true = cc in z)

pub in_range : (now interval : ℕ) → startable now interval ≡ true → (now ≤ clock_max) × (interval ≤ setting_max)
in_range now interval e =
    let tests = both (leb now clock_max) (leb interval setting_max) e in
    (leb-true now clock_max tests.0, leb-true interval setting_max tests.1)

-- with rto_max reached, doubling stops
pub doubling_stops : (x n m : ℕ) → m ≤ x → doubling x n m ≡ m
doubling_stops x zero m h = rw (le-ltb x m h)
doubling_stops x (suc n) m h = rw (le-ltb x m h)

-- below that it ends with the count, or goes on
pub doubling_ends : (x m : ℕ) → x < m → doubling x 0 m ≡ x
doubling_ends x m h = rw (lt-ltb x m h)

pub doubling_on : (x n m : ℕ) → x < m → 0 < n → doubling (x + x) (n - 1) m ≡ doubling x n m
doubling_on x zero m h k = absurd (omega arith)
doubling_on x (suc n) m h k = let e : suc n - 1 ≡ n = omega arith in rw (e, lt-ltb x m h)

-- doubled once, and then n times
twice : (x n : ℕ) → (x + x) * 2 ^ n ≡ x * 2 ^ suc n
twice x n = rw (pow-suc 2 n) (omega (arith, add-mul x x (2 ^ n), mul_assoc x (2 ^ n) 2))

-- doubled, an interval gets no shorter
no_shorter : (x n : ℕ) → x ≤ x * 2 ^ n
no_shorter x zero = omega arith
no_shorter x (suc n) = omega (arith, no_shorter (x + x) n, twice x n)

-- doubling up to rto_max gives the smaller of rto_max and the interval doubled all the times
pub doubling_is : (x n m : ℕ) → doubling x n m ≡ min (x * 2 ^ n) m
doubling_is x zero m = by_test (ltb x m) refl
  where
    by_test : (b : Bool) → ltb x m ≡ b → cond b x m ≡ min (x * 2 ^ 0) m
    by_test true e = omega (arith, ltb-true x m e)
    by_test false e = omega (arith, ltb-false x m e)
doubling_is x (suc n) m = by_test (ltb x m) refl (doubling_is (x + x) n m)
  where
    by_test : (b : Bool) → ltb x m ≡ b → doubling (x + x) n m ≡ min ((x + x) * 2 ^ n) m → cond b (doubling (x + x) n m) m ≡ min (x * 2 ^ suc n) m
    by_test true e h = h ∙ ap (λ (i : ℕ). min i m) (twice x n)
    by_test false e h = omega (arith, ltb-false x m e, no_shorter x (suc n))

-- the back-off never passes its ceiling
pub backoff_below : (interval n rtoMax : ℕ) → backoff interval n rtoMax ≤ rtoMax
backoff_below interval n rtoMax = go (ltb n 31)
  where
    go : (b : Bool) → cond b (min (interval * 2 ^ n) rtoMax) rtoMax ≤ rtoMax
    go true = min-le_right (interval * 2 ^ n) rtoMax
    go false = omega arith

-- no wait is longer than a setting may be
pub wait_below : (t : TimerTable) (timer : Timer) (interval : ℕ) → interval ≤ setting_max → t.rto_max ≤ setting_max → wait_of t timer interval ≤ setting_max
wait_below t timer interval h k = go (eqb (place timer) (place Ack))
  where
    go : (b : Bool) → cond b interval (backoff interval (entry_of t timer).retrans t.rto_max) ≤ setting_max
    go true = h
    go false = le_trans (backoff_below interval (entry_of t timer).retrans t.rto_max) k

-- an expiry is that of the entry, which alone may change
pub whole : (t : TimerTable) (timer : Timer) (clock : ℕ) → is_expired_of t timer clock ≡ checked (answer_of (entry_of t timer) clock) (with_entry t timer (left_of (entry_of t timer) clock))
whole t timer clock = go (leb clock clock_max) (passed clock e.deadline) e.suppressed (leb count_max e.retrans)
  where
    e : Entry
    e = entry_of t timer

    same : t ≡ with_entry t timer e
    same = λ j. record { entries = sym (set-get_or t.entries (place timer) (idle_entry None)) j; rto_max = t.rto_max }

    go : (a b s n : Bool) → ◌≡◌ {A = Checked} (cond a (cond b (cond s (told true false e.retrans (with_entry t timer (with_suppression e false))) (cond n (denied CountFull t) (told true (fails_at e.maximum (e.retrans + 1)) (e.retrans + 1) (with_entry t timer (with_count e (e.retrans + 1)))))) (told false false e.retrans t)) (denied BeyondLimit t))
        (checked
        (cond a (cond b (cond s (expiry true false e.retrans) (cond n (Err CountFull) (expiry true (fails_at e.maximum (e.retrans + 1)) (e.retrans + 1)))) (expiry false false e.retrans)) (Err BeyondLimit))
        (with_entry t timer (cond a (cond b (cond s (with_suppression e false) (cond n e (with_count e (e.retrans + 1)))) e) e)))
    go false b s n = ap (denied BeyondLimit) same
    go true false s n = ap (told false false e.retrans) same
    go true true true n = refl
    go true true false true = ap (denied CountFull) same
    go true true false false = refl

-- the smallest so far, and the smallest of the rest
folded : (d : Moment) (ds : List Moment) → fold earlier d ds ≡ earlier d (soonest ds)
folded d [] = sym (earlier_absent d)
folded d (e ∷ ds) = folded (earlier d e) ds ∙ earlier_assoc d e (soonest ds)

pub soonest_is : (ds : List Moment) → fold earlier None ds ≡ soonest ds
soonest_is ds = folded None ds
