-- The claims of `specs/Claims.antt`: each call keeps the limits, and a refused one keeps the table, by the tests that part its answers. Assumes nothing.
use Prim.Native.Nat.{ℕ, zero, suc, ◌+◌, ◌≤◌, ◌<◌}
use mathlib.Core.Path.{◌≡◌, refl, sym, ap, subst}
use mathlib.Core.Logic.{◌⊎◌, inl, inr}
use mathlib.Core.List.{List, [], ◌∷◌}
use mathlib.Core.Bool.{Bool, true, false, cond, not}
use native.Mathlib.Omega.{arith}
use borrow.Author.Tests.{le-ltb, ltb-false, leb-false, not-true}
use lib.Dec.{leb, ltb, lit≤}
use lib.ListN as ListN
use lib.Seq.{get_or-set_same}
use Rattle.std.specs.Prelude.{Some, None, Err}
use Rattle.limits.specs.declared.Refusal.{Refusal}
use Rattle.limits.specs.declared.Refusal.TheVariants.{BeyondLimit, CountFull}
use Rattle.limits.specs.Limits.{clock_max, setting_max, count_max}
use Rattle.timer.specs.declared.Timer.{Timer}
use Rattle.timer.specs.declared.Timer.TheVariants.{T1Init, T1Cookie, T2Shutdown, T3RTX, Reconfig, Ack}
use Rattle.timer.specs.declared.Entry.{Entry}
use Rattle.timer.specs.declared.TimerTable.{TimerTable}
use Rattle.limits.specs.Moments.{Moment, passed, ahead, beyond}
use Rattle.timer.specs.Entries.{Maximum, place, idle_entry, fails_at}
use Rattle.timer.specs.Timers.{entry_of, with_entry, with_deadline, with_count, with_suppression, wait_of}
use Rattle.timer.specs.Calls.{Changed, Checked, number_of, expiry_number, count_of, done, refused, told, denied, guarded, maximum_of, fresh, unmade, new_of, get_of, startable, started_of, expiry_of, is_expired_of}
use Rattle.timer.specs.Claims.{Call, set, get, next_timeout, start, restart_if_stale, stop, reset_retrans, suppress_error_count, is_expired}
use Rattle.timer.specs.Claims.{called, after, latest, Within, PlacesAgree, SameWaits, StaysWithin, RefusalKeeps, RefusalsAreListed, CountIsKept}
use Rattle.timer.proofs.Laws.{place_below, in_range, doubling_is, wait_below}

pub places_agree : PlacesAgree
places_agree T1Init = refl
places_agree T1Cookie = refl
places_agree T2Shutdown = refl
places_agree T3RTX = refl
places_agree Reconfig = refl
places_agree Ack = refl

pub same_waits : SameWaits
same_waits interval n rtoMax = ap (λ (i : ℕ). cond (ltb n 31) i rtoMax) (doubling_is interval n rtoMax)

-- ---- the ways out of a call, each shown to have what is asked of all
guarded_cases : (P : Changed → Type 0) (allowed : Bool) (u t : TimerTable) → (allowed ≡ true → P (done u)) → P (refused BeyondLimit t) → P (guarded allowed u t)
guarded_cases P true u t given denial = given refl
guarded_cases P false u t given denial = denial

module _ (t : TimerTable) (timer : Timer) where
  -- an expiry that is not counted, and one that is
  abbrev exempt : Checked
  exempt = let e = entry_of t timer in told true false e.retrans (with_entry t timer (with_suppression e false))

  abbrev counting : Checked
  counting =
      let e = entry_of t timer in
      told true (fails_at e.maximum (e.retrans + 1)) (e.retrans + 1) (with_entry t timer (with_count e (e.retrans + 1)))

  expired_cases : (P : Checked → Type 0) (clock : ℕ) →
      P (denied BeyondLimit t) →
      P (told false false (entry_of t timer).retrans t) →
      P exempt →
      P (denied CountFull t) →
      ((entry_of t timer).retrans < count_max → P counting) →
      P (is_expired_of t timer clock)
  expired_cases P clock late alive exempted full counted =
      clocked (leb clock clock_max) (passed clock (get_of t timer))
    where
      expiry : (suppressed atLimit : Bool) → leb count_max (entry_of t timer).retrans ≡ atLimit →
          P (cond suppressed exempt (cond atLimit (denied CountFull t) counting))
      expiry true b e = exempted
      expiry false true e = full
      expiry false false e = counted (leb-false _ _ e)

      clocked : (allowed expired : Bool) →
          P (cond allowed (cond expired (expiry_of t timer (entry_of t timer)) (told false false (entry_of t timer).retrans t)) (denied BeyondLimit t))
      clocked true true = expiry (entry_of t timer).suppressed (leb count_max (entry_of t timer).retrans) refl
      clocked true false = alive
      clocked false b = late

-- ---- a table whose timers are all within the limits
record Sound (t : TimerTable) : Type 0 where
  pub ceiling : t.rto_max ≤ setting_max
  pub each : (timer : Timer) → Within (entry_of t timer)

-- what holds of the new entry and of the one that stood at a place holds there after the change
stored : (es : List Entry) (i j : ℕ) (e d : Entry) → Within e → Within (ListN.get_or es j d) → Within (ListN.get_or (ListN.set es i e) j d)
stored [] i j e d new old = old
stored (x ∷ es) zero zero e d new old = new
stored (x ∷ es) zero (suc j) e d new old = old
stored (x ∷ es) (suc i) zero e d new old = old
stored (x ∷ es) (suc i) (suc j) e d new old = stored es i j e d new old

module _ (t : TimerTable) (s : Sound t) (timer : Timer) where
  changed : (e : Entry) → Within e → Sound (with_entry t timer e)
  changed e w =
      record {
        ceiling = s.ceiling;
        each = λ other. stored t.entries (place timer) (place other) e (idle_entry None) w (s.each other);
      }

  with_deadline_lem : (d : Moment) → beyond latest d ≡ false → Sound (with_deadline t timer d)
  with_deadline_lem d h = changed _ (record { counted = (s.each timer).counted; timely = h })

  with_count_lem : (n : ℕ) → n ≤ count_max → Sound (with_entry t timer (with_count (entry_of t timer) n))
  with_count_lem n h = changed _ (record { counted = h; timely = (s.each timer).timely })

  with_suppression_lem : (b : Bool) → Sound (with_entry t timer (with_suppression (entry_of t timer) b))
  with_suppression_lem b = changed _ (record { counted = (s.each timer).counted; timely = (s.each timer).timely })

  started : (now interval : ℕ) → startable now interval ≡ true → Sound (started_of t timer now interval)
  started now interval e =
      let range = in_range now interval e in
      let wait = wait_below t timer interval range.1 s.ceiling in
      with_deadline_lem (Some (now + wait_of t timer interval)) (le-ltb latest (now + wait_of t timer interval) (omega arith))

  restarted : (now interval : ℕ) (ahead : Bool) → startable now interval ≡ true → Sound (cond ahead t (started_of t timer now interval))
  restarted now interval true e = s
  restarted now interval false e = started now interval e

-- a deadline within the clock's limit is well within that of a wait
set_timely : (d : Moment) → not (beyond clock_max d) ≡ true → beyond latest d ≡ false
set_timely None e = refl
set_timely (Some x) e =
    let h : x ≤ clock_max = ltb-false clock_max x (not-true _ e) in
    le-ltb latest x (omega arith)

abbrev table_sound : Changed → Type 0
table_sound r = Sound r.table

each_keeps : (t : TimerTable) (call : Call) → Sound t → Sound (called t call)
each_keeps t (set timer d) s =
    guarded_cases table_sound (not (beyond clock_max d)) (with_deadline t timer d) t (λ e. with_deadline_lem t s timer d (set_timely d e)) s
each_keeps t (get timer) s = s
each_keeps t next_timeout s = s
each_keeps t (start timer now interval) s =
    guarded_cases table_sound (startable now interval) (started_of t timer now interval) t (started t s timer now interval) s
each_keeps t (restart_if_stale timer now interval) s =
    let runs = ahead now (get_of t timer) in
    guarded_cases table_sound (startable now interval) (cond runs t (started_of t timer now interval)) t (restarted t s timer now interval runs) s
each_keeps t (stop timer) s = changed t s timer (idle_entry (entry_of t timer).maximum) (record { counted = lit≤ tt; timely = refl })
each_keeps t (reset_retrans timer) s = with_count_lem t s timer 0 (lit≤ tt)
each_keeps t (suppress_error_count timer) s = with_suppression_lem t s timer true
each_keeps t (is_expired timer clock) s =
    expired_cases t timer (λ r. Sound r.table) clock s s (with_suppression_lem t s timer false) s (λ h. with_count_lem t s timer ((entry_of t timer).retrans + 1) (omega arith))

all_keep : (calls : List Call) (t : TimerTable) → Sound t → Sound (after t calls)
all_keep [] t s = s
all_keep (call ∷ calls) t s = all_keep calls (called t call) (each_keeps t call s)

-- a fresh timer is idle
fresh_entry : (maxInit maxData : Maximum) (rtoMax : ℕ) (timer : Timer) → entry_of (fresh maxInit maxData rtoMax) timer ≡ idle_entry (maximum_of maxInit maxData timer)
fresh_entry maxInit maxData rtoMax T1Init = refl
fresh_entry maxInit maxData rtoMax T1Cookie = refl
fresh_entry maxInit maxData rtoMax T2Shutdown = refl
fresh_entry maxInit maxData rtoMax T3RTX = refl
fresh_entry maxInit maxData rtoMax Reconfig = refl
fresh_entry maxInit maxData rtoMax Ack = refl

fresh_sound : (maxInit maxData : Maximum) (rtoMax : ℕ) → rtoMax ≤ setting_max → Sound (fresh maxInit maxData rtoMax)
fresh_sound maxInit maxData rtoMax h =
    record {
      ceiling = h;
      each = λ timer. subst Within (sym (fresh_entry maxInit maxData rtoMax timer)) (record { counted = lit≤ tt; timely = refl });
    }

pub stays_within : StaysWithin
stays_within maxInit maxData rtoMax h calls timer =
    let new =
    guarded_cases table_sound (leb rtoMax setting_max) (fresh maxInit maxData rtoMax) unmade
    (λ e. fresh_sound maxInit maxData rtoMax h) (fresh_sound None None 0 (lit≤ tt))
    in
    (all_keep calls (new_of maxInit maxData rtoMax).table new).each timer

-- ---- refusals
refusal_guarded : (t u : TimerTable) (allowed : Bool) → (number_of (guarded allowed u t).answer ≡ 0 → ⊥) → (guarded allowed u t).table ≡ t
refusal_guarded t u allowed =
    guarded_cases (λ r. (number_of r.answer ≡ 0 → ⊥) → r.table ≡ t) allowed u t (λ e h. absurd (h refl)) (λ h. refl)

pub refusal_keeps : RefusalKeeps
refusal_keeps t (set timer d) = refusal_guarded t (with_deadline t timer d) (not (beyond clock_max d))
refusal_keeps t (get timer) = λ h. refl
refusal_keeps t next_timeout = λ h. refl
refusal_keeps t (start timer now interval) = refusal_guarded t (started_of t timer now interval) (startable now interval)
refusal_keeps t (restart_if_stale timer now interval) =
    refusal_guarded t (cond (ahead now (get_of t timer)) t (started_of t timer now interval)) (startable now interval)
refusal_keeps t (stop timer) = λ h. absurd (h refl)
refusal_keeps t (reset_retrans timer) = λ h. absurd (h refl)
refusal_keeps t (suppress_error_count timer) = λ h. absurd (h refl)
refusal_keeps t (is_expired timer clock) =
    expired_cases t timer (λ r. (expiry_number r.answer ≡ 0 → ⊥) → r.table ≡ t) clock (λ h. refl) (λ h. refl) (λ h. absurd (h refl)) (λ h. refl) (λ k h. absurd (h refl))

listed_guarded : (t u : TimerTable) (allowed : Bool) (r : Refusal) → (guarded allowed u t).answer ≡ Err r → r ≡ BeyondLimit
listed_guarded t u allowed r =
    guarded_cases (λ c. c.answer ≡ Err r → r ≡ BeyondLimit) allowed u t (λ _ e. absurd cc) (λ e. cc)

listed_expiry : (t : TimerTable) (timer : Timer) (clock : ℕ) (r : Refusal) → (is_expired_of t timer clock).answer ≡ Err r → (r ≡ BeyondLimit) ⊎ (r ≡ CountFull)
listed_expiry t timer clock r =
    expired_cases t timer (λ c. c.answer ≡ Err r → (r ≡ BeyondLimit) ⊎ (r ≡ CountFull)) clock (λ e. inl cc) (λ e. absurd cc) (λ e. absurd cc) (λ e. inr cc) (λ _ e. absurd cc)

pub refusals_are_listed : RefusalsAreListed
refusals_are_listed =
    record {
      creation = λ maxInit maxData rtoMax. listed_guarded unmade (fresh maxInit maxData rtoMax) (leb rtoMax setting_max);
      setting = λ t timer d. listed_guarded t (with_deadline t timer d) (not (beyond clock_max d));
      starting = λ t timer now interval. listed_guarded t (started_of t timer now interval) (startable now interval);
      restarting = λ t timer now interval. listed_guarded t (cond (ahead now (get_of t timer)) t (started_of t timer now interval)) (startable now interval);
      expiring = listed_expiry;
    }

pub count_is_kept : CountIsKept
count_is_kept t timer clock six =
    expired_cases t timer (λ r. expiry_number r.answer ≡ 0 → count_of r.answer ≡ (entry_of r.table timer).retrans) clock
    (λ h. absurd (let z : ◌≡◌ {A = ℕ} 1 0 = h in omega arith))
    (λ h. refl)
    (λ h. ap retrans_of (sym (same (with_suppression (entry_of t timer) false))))
    (λ h. absurd (let z : ◌≡◌ {A = ℕ} 12 0 = h in omega arith))
    (λ k h. ap retrans_of (sym (same (with_count (entry_of t timer) ((entry_of t timer).retrans + 1)))))
  where
    retrans_of : Entry → ℕ
    retrans_of e = e.retrans

    same : (e : Entry) → entry_of (with_entry t timer e) timer ≡ e
    same e = get_or-set_same t.entries (place timer) e (idle_entry None) (rw six (place_below timer))
