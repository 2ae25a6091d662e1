-- A timer's three words in the list, its place, and what each call makes of the table. Assumes nothing.
use mathlib.Core.Path.{◌≡◌, refl, sym, ap, subst, ◌∙◌}
use mathlib.Core.Logic.{◌≢◌}
use mathlib.Core.Bool.{Bool, true, false, cond, not}
use mathlib.Core.List.{List, [], ◌∷◌, map}
use Prim.Native.Nat.{ℕ, zero, suc, ◌+◌, ◌*◌, ◌/◌, ◌%◌, ◌≤◌, ◌<◌}
use native.Mathlib.Omega.{arith}
use lib.Dec.{eqb}
use lib.ListN.{length, get_or, set, drop}
use lib.Seq.{set-get_or, get_or-set_other}
use borrow.Author.Tests.{lt-ltb, eq-eqb, le-leb}
use Rattle.std.specs.Prelude.{Option, Some, None, Result, Ok}
use Rattle.std.specs.Bool.{then_some}
use Rattle.limits.specs.Limits.{clock_max, setting_max}
use Rattle.limits.specs.Moments.{Moment, ahead, beyond, earlier}
use Rattle.limits.specs.declared.Refusal.{Refusal}
use Rattle.limits.specs.declared.Refusal.TheVariants.{BeyondLimit}
use Rattle.timer.specs.declared.Timer.{Timer}
use Rattle.timer.specs.declared.Timer.TheVariants.{T1Init}
use Rattle.timer.specs.declared.Entry.{Entry}
use Rattle.timer.specs.Entries.{place, order, timer_at, idle_entry}
use Rattle.timer.specs.declared.TimerTable.{TimerTable}
use Rattle.timer.proofs.Laws.{one_more, whole}
use Rattle.timer.specs.Timers.{entry_of, with_entry, backoff, wait_of}
use Rattle.timer.specs.Calls.{Changed, Checked, number_of, guarded, startable, started_of, set_of, start_of, restart_if_stale_of, is_expired_of, answer_of, left_of, done as changed, refused, denied, get_of, soonest, fresh, unmade, new_of}
use Rattle.timer_cells.specs.Words.{is_set, moment_of, maximum_of, entry_in, entries_in, table_of, table_with, with_time, Marked}
use Rattle.timer_cells.specs.Says.{due_of, no_due, expired_of, timer_in, on_timer, Stands, Does, Changes, Checks, Gets, Makes, Creates, Expires}
use Rattle.timer_cells.specs.declared.Head.{Head}
use Rattle.timer_cells.specs.declared.Expired.{Expired}

-- ---- three words of the list

abbrev tri : ℕ → ℕ
tri zero = zero
tri (suc i) = suc (suc (suc (tri i)))

tri_is : (i : ℕ) → tri i ≡ i * 3
tri_is zero = omega arith
tri_is (suc i) = omega (arith, tri_is i)

get_at : (ws : List ℕ) (i : ℕ) (e : Entry) → suc (suc (tri i)) < length ws → get_or (entries_in ws) i e ≡ entry_in (get_or ws (tri i) 0) (get_or ws (suc (tri i)) 0) (get_or ws (suc (suc (tri i))) 0)
get_at [] i e h = absurd (omega arith)
get_at (a ∷ []) i e h = absurd (omega arith)
get_at (a ∷ b ∷ []) i e h = absurd (omega arith)
get_at (a ∷ b ∷ c ∷ ws) zero e h = refl
get_at (a ∷ b ∷ c ∷ ws) (suc i) e h = get_at ws i e (omega arith)

put_at : (ws : List ℕ) (i d m w : ℕ) → suc (suc (tri i)) < length ws → entries_in (set (set (set ws (tri i) d) (suc (tri i)) m) (suc (suc (tri i))) w) ≡ set (entries_in ws) i (entry_in d m w)
put_at [] i d m w h = absurd (omega arith)
put_at (a ∷ []) i d m w h = absurd (omega arith)
put_at (a ∷ b ∷ []) i d m w h = absurd (omega arith)
put_at (a ∷ b ∷ c ∷ ws) zero d m w h = refl
put_at (a ∷ b ∷ c ∷ ws) (suc i) d m w h = ap (λ (r : List Entry). entry_in a b c ∷ r) (put_at ws i d m w (omega arith))

-- the words of timer i, which begin at a
module _ (ws : List ℕ) (i a : ℕ) (q : a ≡ i * 3) (h : a + 2 < length ws) where
  first : tri i ≡ a
  first = tri_is i ∙ sym q

  second : suc (tri i) ≡ a + 1
  second = omega (arith, tri_is i)

  third : suc (suc (tri i)) ≡ a + 2
  third = omega (arith, tri_is i)

  get : (e : Entry) → get_or (entries_in ws) i e ≡ entry_in (get_or ws a 0) (get_or ws (a + 1) 0) (get_or ws (a + 2) 0)
  get e = get_at ws i e (omega (arith, tri_is i)) ∙ (λ j. entry_in (get_or ws (first j) 0) (get_or ws (second j) 0) (get_or ws (third j) 0))

  -- all three, then the deadline and the marks, and the marks alone
  pub put : (d m w : ℕ) → entries_in (set (set (set ws a d) (a + 1) m) (a + 2) w) ≡ set (entries_in ws) i (entry_in d m w)
  put d m w = sym (λ j. entries_in (set (set (set ws (first j) d) (second j) m) (third j) w)) ∙ put_at ws i d m w (omega (arith, tri_is i))

  put_two : (d w : ℕ) → entries_in (set (set ws a d) (a + 2) w) ≡ set (entries_in ws) i (entry_in d (get_or ws (a + 1) 0) w)
  put_two d w =
      let stays : get_or (set ws a d) (a + 1) 0 ≡ get_or ws (a + 1) 0 = get_or-set_other ws a (a + 1) d 0 (λ z. absurd (omega (arith, z))) in
      ap (λ (l : List ℕ). entries_in (set l (a + 2) w)) (sym (set-get_or (set ws a d) (a + 1) 0)) ∙ put d (get_or (set ws a d) (a + 1) 0) w
      ∙ ap (λ (m : ℕ). set (entries_in ws) i (entry_in d m w)) stays

  mark : (w : ℕ) → entries_in (set ws (a + 2) w) ≡ set (entries_in ws) i (entry_in (get_or ws a 0) (get_or ws (a + 1) 0) w)
  mark w = ap (λ (l : List ℕ). entries_in (set l (a + 2) w)) (sym (set-get_or ws a 0)) ∙ put_two (get_or ws a 0) w

-- how many timers words hold
held : (n : ℕ) (ws : List ℕ) → length ws ≡ n * 3 → length (entries_in ws) ≡ n
held n [] e = omega arith
held n (a ∷ []) e = absurd (omega arith)
held n (a ∷ b ∷ []) e = absurd (omega arith)
held zero (a ∷ b ∷ c ∷ ws) e = absurd (omega arith)
held (suc n) (a ∷ b ∷ c ∷ ws) e = ap suc (held n ws (omega arith))

-- six that are all written are those written
six : (l : List Entry) (a b c d e f : Entry) → length l ≡ 6 → set (set (set (set (set (set l 0 a) 1 b) 2 c) 3 d) 4 e) 5 f ≡ a ∷ b ∷ c ∷ d ∷ e ∷ f ∷ []
six [] a b c d e f h = absurd (omega arith)
six (_ ∷ []) a b c d e f h = absurd (omega arith)
six (_ ∷ _ ∷ []) a b c d e f h = absurd (omega arith)
six (_ ∷ _ ∷ _ ∷ []) a b c d e f h = absurd (omega arith)
six (_ ∷ _ ∷ _ ∷ _ ∷ []) a b c d e f h = absurd (omega arith)
six (_ ∷ _ ∷ _ ∷ _ ∷ _ ∷ []) a b c d e f h = absurd (omega arith)
six (_ ∷ _ ∷ _ ∷ _ ∷ _ ∷ _ ∷ []) a b c d e f h = refl
six (_ ∷ _ ∷ _ ∷ _ ∷ _ ∷ _ ∷ _ ∷ l) a b c d e f h = absurd (omega arith)

pub all_written : (ws : List ℕ) (l₁ l₂ l₃ l₄ l₅ l₆ : List Entry) (a b c d e f : Entry) → length ws ≡ 18
    → l₁ ≡ set (entries_in ws) 0 a → l₂ ≡ set l₁ 1 b → l₃ ≡ set l₂ 2 c → l₄ ≡ set l₃ 3 d → l₅ ≡ set l₄ 4 e → l₆ ≡ set l₅ 5 f → l₆ ≡ a ∷ b ∷ c ∷ d ∷ e ∷ f ∷ []
all_written ws l₁ l₂ l₃ l₄ l₅ l₆ a b c d e f h q₁ q₂ q₃ q₄ q₅ q₆ = cc (six (entries_in ws) a b c d e f (held 6 ws h))

-- a timer that is made idle
pub idle_is : (is : Bool) (ws : List ℕ) (i most w : ℕ) → i < 6 → length ws ≡ 18 → w ≡ cond is 1099511627776 0
    → entries_in (set (set (set ws (i * 3) 0) (i * 3 + 1) most) (i * 3 + 2) w) ≡ set (entries_in ws) i (idle_entry (maximum_of is most))
idle_is true ws i most w h e q = put ws i (i * 3) refl (omega arith) 0 most w ∙ ap (λ (n : ℕ). set (entries_in ws) i (entry_in 0 most n)) q
idle_is false ws i most w h e q = put ws i (i * 3) refl (omega arith) 0 most w ∙ ap (λ (n : ℕ). set (entries_in ws) i (entry_in 0 most n)) q

-- a number, where the flag is set
pub then_is : (is : Bool) (time : ℕ) → then_some is time ≡ moment_of is time
then_is true time = refl
then_is false time = refl

-- ---- the timer at a place

named : (i : ℕ) → i < 6 → place (get_or order i T1Init) ≡ i
named zero h = refl
named (suc zero) h = refl
named (suc (suc zero)) h = refl
named (suc (suc (suc zero))) h = refl
named (suc (suc (suc (suc zero)))) h = refl
named (suc (suc (suc (suc (suc zero))))) h = refl
named (suc (suc (suc (suc (suc (suc i)))))) h = absurd (omega arith)

found : (i : ℕ) → i < 6 → timer_at i ≡ Some (get_or order i T1Init)
found i h = ap (λ (b : Bool). cond b (Some (get_or order i T1Init)) None) (lt-ltb i 6 h)

-- the words are those of six timers
six_words : {A : Type 0} (n : ℕ) (x y : A) → n ≡ 18 → cond (eqb n 18) x y ≡ x
six_words n x y h = simp (eq-eqb n 18 h)

-- ---- six new timers, that are made

module _ (d : Head) (ws : List ℕ) (hasInit : Bool) (init : ℕ) (hasData : Bool) (most rtoMax : ℕ) where
  abbrev new : Changed
  new = new_of (maximum_of hasInit init) (maximum_of hasData most) rtoMax

  abbrev limited : Bool → Changed
  limited b = guarded b (fresh (maximum_of hasInit init) (maximum_of hasData most) rtoMax) unmade

  abbrev none_made : Changed
  none_made = refused BeyondLimit (table_of d ws)

  pub made : length ws ≡ 18 → rtoMax ≤ setting_max → (d' : Head) (ws' : List ℕ) → d'.rto_max ≡ rtoMax
      → entries_in ws' ≡ (fresh (maximum_of hasInit init) (maximum_of hasData most) rtoMax).entries → Creates (length ws) hasInit init hasData most rtoMax d ws d' ws' 0
  made e h d' ws' x q =
      subst (λ (c : Changed). Makes c d ws d' ws' 0) (sym (six_words (length ws) new none_made e ∙ ap limited (le-leb rtoMax setting_max h)))
      (record { said = refl; table = λ z j. record { entries = q j; rto_max = x j }; head = λ z. absurd (omega arith); kept = λ z. absurd (omega arith) })

-- ---- a call that leaves every word

same_words : {A : Type 0} (i : ℕ) (y : A) (refusal : ℕ) (d : Head) (ws : List ℕ) → Does i y (table_of d ws) refusal d ws d ws y
same_words i y refusal d ws = record { said = refl; head = refl; table = refl; others = λ n z. refl; kept = λ z. refl }

module _ (d : Head) (ws : List ℕ) (i : ℕ) (call : TimerTable → Timer → Changed) where
  abbrev after : Option Timer → Changed
  after f = on_timer f (call (table_of d ws)) (refused BeyondLimit (table_of d ws))

  -- whatever it answers
  stays : (a : Result (Unit {0}) Refusal) → after (timer_in (length ws) i) ≡ record { answer = a; table = table_of d ws } → Changes (length ws) i call d ws d ws (number_of a)
  stays a e = subst (λ (c : Changed). Does i (number_of c.answer) c.table (number_of a) d ws d ws (number_of a)) (sym e) (same_words i (number_of a) (number_of a) d ws)

-- ---- a call on the timer at place i, whose words begin at a

module _ (d : Head) (ws : List ℕ) (i a : ℕ) (s : Stands (length ws) i a) where
  abbrev k : Timer
  k = get_or order i T1Init

  abbrev t : TimerTable
  t = table_of d ws

  abbrev marks : ℕ
  marks = get_or ws (a + 2) 0

  abbrev here : Entry
  here = entry_in (get_or ws a 0) (get_or ws (a + 1) 0) marks

  abbrev due : Moment
  due = moment_of (is_set (marks / 4294967296 % 256)) (get_or ws a 0)

  inside : a + 2 < length ws
  inside = omega arith

  known : timer_in (length ws) i ≡ Some k
  known = six_words (length ws) (timer_at i) None s.size ∙ found i s.below

  entry_is : entry_of t k ≡ here
  entry_is = ap (λ (n : ℕ). get_or (entries_in ws) n (idle_entry None)) (named i s.below) ∙ get ws i a s.first inside (idle_entry None)

  -- an entry for the one at this place
  with_is : (x : Entry) → with_entry t k x ≡ table_with d (set (entries_in ws) i x)
  with_is x = ap (λ (n : ℕ). table_with d (set (entries_in ws) n x)) (named i s.below)

  -- the words of the others
  others : (time v n : ℕ) → n / 3 ≢ i → get_or (set (set ws a time) (a + 2) v) n 0 ≡ get_or ws n 0
  others time v n z = get_or-set_other (set ws a time) (a + 2) n v 0 (λ q. z (omega (arith, q, s.first))) ∙ get_or-set_other ws a n time 0 (λ q. z (omega (arith, q, s.first)))

  -- ---- a change, that is done

  module _ (call : TimerTable → Timer → Changed) where
    -- nothing changes: refused, or nothing to do
    pub unchanged : (x : Result (Unit {0}) Refusal) → call t k ≡ record { answer = x; table = t } → Changes (length ws) i call d ws d ws (number_of x)
    unchanged x q = stays d ws i call x (ap (after d ws i call) known ∙ q)

    -- deadline and marks are written
    pub written : (time v : ℕ) (f : Entry → Entry) → call t k ≡ changed (with_entry t k (f (entry_of t k))) → entry_in time (get_or ws (a + 1) 0) v ≡ f here
        → Changes (length ws) i call d ws d (set (set ws a time) (a + 2) v) 0
    written time v f q p =
        subst (λ (c : Changed). Does i (number_of c.answer) c.table 0 d ws d (set (set ws a time) (a + 2) v) 0) (sym (ap (after d ws i call) known ∙ q))
        (record {
          said = refl;
          head = refl;
          table = ap (table_with d) (put_two ws i a s.first inside time v ∙ ap (set (entries_in ws) i) (p ∙ ap f (sym entry_is))) ∙ sym (with_is (f (entry_of t k)));
          others = others time v;
          kept = λ z. absurd (omega arith);
        })

    -- the marks alone
    pub marked : (v : ℕ) (f : Entry → Entry) → call t k ≡ changed (with_entry t k (f (entry_of t k))) → Marked (λ _. f) marks v → Changes (length ws) i call d ws d (set ws (a + 2) v) 0
    marked v f q p = subst (λ (l : List ℕ). Changes (length ws) i call d ws d (set l (a + 2) v) 0) (set-get_or ws a 0) (written (get_or ws a 0) v f q (p (get_or ws a 0) (get_or ws (a + 1) 0)))

  -- ---- a deadline that is set

  module _ (is : Bool) (time : ℕ) (u : Moment) (g : u ≡ moment_of is time) where
    abbrev setting : TimerTable → Timer → Changed
    setting t k = set_of t k (moment_of is time)

    set_is : (b : Bool) → beyond clock_max u ≡ b → setting t k ≡ guarded (not b) (with_entry t k (with_time (entry_of t k) (moment_of is time))) t
    set_is b s = ap (λ (x : Bool). guarded (not x) (with_entry t k (with_time (entry_of t k) (moment_of is time))) t) (ap (beyond clock_max) (sym g) ∙ s)

    pub set_to : beyond clock_max u ≡ false → (v : ℕ) → Marked (λ d e. with_time e (moment_of is d)) marks v → Changes (length ws) i setting d ws d (set (set ws a time) (a + 2) v) 0
    set_to s v p = written setting time v (λ x. with_time x (moment_of is time)) (set_is false s) (p time (get_or ws (a + 1) 0))

  -- ---- a start, and a restart: refused, needless, or a start

  module _ (clock interval : ℕ) where
    abbrev starting : TimerTable → Timer → Changed
    starting t k = start_of t k clock interval

    abbrev restarting : TimerTable → Timer → Changed
    restarting t k = restart_if_stale_of t k clock interval

    wait_is : wait_of t k interval ≡ cond (eqb i 5) interval (backoff interval (marks % 4294967296) d.rto_max)
    wait_is = λ j. cond (eqb (named i s.below j) 5) interval (backoff interval (entry_is j).retrans d.rto_max)

    pub started : startable clock interval ≡ true → (n v : ℕ) → n ≡ cond (eqb i 5) interval (backoff interval (marks % 4294967296) d.rto_max) → Marked (λ d e. with_time e (Some d)) marks v
        → Changes (length ws) i starting d ws d (set (set ws a (clock + n)) (a + 2) v) 0
    started s n v q p =
        written starting (clock + n) v (λ x. with_time x (Some (clock + n)))
        (ap (λ (b : Bool). guarded b (started_of t k clock interval) t) s ∙ ap (λ (n : ℕ). changed (with_entry t k (with_time (entry_of t k) (Some (clock + n))))) (wait_is ∙ sym q))
        (p (clock + n) (get_or ws (a + 1) 0))

    restart_is : (b : Bool) (u : Moment) → u ≡ due → ahead clock u ≡ b → restarting t k ≡ guarded (startable clock interval) (cond b t (started_of t k clock interval)) t
    restart_is b u q x = ap (λ (x : Bool). guarded (startable clock interval) (cond x t (started_of t k clock interval)) t) (ap (λ (x : Entry). ahead clock x.deadline) entry_is ∙ ap (ahead clock) (sym q) ∙ x)

    pub running : startable clock interval ≡ true → (u : Moment) → u ≡ due → ahead clock u ≡ true → Changes (length ws) i restarting d ws d ws 0
    running s u q x = unchanged restarting (Ok tt) (restart_is true u q x ∙ ap (λ (b : Bool). guarded b t t) s)

    -- refused by both, or a start
    pub refused_both : startable clock interval ≡ false → restarting t k ≡ starting t k
    refused_both s = ap (λ (b : Bool). guarded b (cond (ahead clock (get_of t k)) t (started_of t k clock interval)) t) s ∙ sym (ap (λ (b : Bool). guarded b (started_of t k clock interval) t) s)

    pub started_both : (u : Moment) → u ≡ due → ahead clock u ≡ false → restarting t k ≡ starting t k
    started_both = restart_is false

    pub stale : restarting t k ≡ starting t k → (d' : Head) (ws' : List ℕ) (y : ℕ) → Changes (length ws) i starting d ws d' ws' y → Changes (length ws) i restarting d ws d' ws' y
    stale q d' ws' y p =
        subst (λ (c : Changed). Does i (number_of c.answer) c.table y d ws d' ws' y)
        (ap (after d ws i starting) known ∙ sym (ap (after d ws i restarting) known ∙ q)) p

  -- ---- questions, and an expiry

  pub got : (u : Moment) → u ≡ due → Gets (length ws) i d ws (due_of u)
  got u q = ap due_of (q ∙ ap (λ (x : Entry). x.deadline) (sym entry_is)) ∙ ap (λ (f : Option Timer). on_timer f (λ k. due_of (get_of t k)) no_due) (sym known)

  abbrev asked : (clock : ℕ) → Option Timer → Checked
  asked clock f = on_timer f (λ k. is_expired_of t k clock) (denied BeyondLimit t)

  pub checked : (clock v : ℕ) (y : Expired) → Expires (get_or ws a 0) (get_or ws (a + 1) 0) marks clock v y → Checks (length ws) i clock d ws d (set ws (a + 2) v) y
  checked clock v y p =
      let c : asked clock (timer_in (length ws) i) ≡ record { answer = answer_of here clock; table = with_entry t k (left_of here clock) } =
      ap (asked clock) known ∙ whole t k clock ∙ (λ j. record { answer = answer_of (entry_is j) clock; table = with_entry t k (left_of (entry_is j) clock) }) in
      record {
        said = p.said ∙ ap (λ (x : Checked). expired_of x.answer) (sym c);
        head = refl;
        table = ap (table_with d) (mark ws i a s.first inside v ∙ ap (set (entries_in ws) i) p.left) ∙ sym (with_is (left_of here clock)) ∙ ap (λ (x : Checked). x.table) (sym c);
        others = λ n z. get_or-set_other ws (a + 2) n v 0 (λ q. z (omega (arith, q, s.first)));
        kept = λ z. ap (λ (n : ℕ). set ws (a + 2) n) (p.kept z) ∙ set-get_or ws (a + 2) 0;
      }

  -- the deadline that stands here, for the smallest of all
  pub next_more : (next until : Moment) → until ≡ due → earlier (earlier next until) (soonest (map (get_of t) (drop (i + 1) order))) ≡ earlier next (soonest (map (get_of t) (drop i order)))
  next_more next until q =
      ap (λ (u : Moment). earlier (earlier next u) (soonest (map (get_of t) (drop (i + 1) order)))) (q ∙ ap (λ (x : Entry). x.deadline) (sym entry_is))
      ∙ one_more t i next s.below

-- a head, where none matters
abbrev pub none : Head
none = record { rto_max = 0 }
