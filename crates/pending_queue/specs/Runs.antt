-- A message is removed from the front of each ring.
use Rattle.std.specs.Prelude.{◌≡◌, ℕ, suc, ◌+◌, ◌≤◌, Bool, true, false, not, List, [], ◌∷◌, ◌++◌, map, length, ◌≢◌, refl, Some, None}
use Rattle.std.proofs.Common.{sym, ap, ap₂, ◌∙◌, arith, eq-eqb, ne_eqb}
use Rattle.std.specs.Option.{option_or}
use Rattle.std.proofs.Math.Option.{Option}
use mathlib.Core.List.{tail-eq_of_cons-eq}
use Rattle.model.specs.declared.Chunk.{Chunk}
use Rattle.model.specs.State.{Lane, Unordered, Ordered, UnderWay, Idle, Pending, at, is_of}
use Rattle.model.specs.Lists.{when◌then◌else◌, keep, last}
use Rattle.model.specs.Rings.{head, pending_of, ended, without, lowered, bytes}
use Rattle.model.specs.Flight.{found}
use Rattle.demands.specs.States.{drop_run}
use Rattle.rows.specs.Walks.{take_while, drop_while, take_hit, take_miss, drop_hit, drop_miss}
use Rattle.ring.specs.Held.{held, found_none, found_some}
use Rattle.ring.specs.Sums.{bytes_append}
use Rattle.pending_queue.specs.declared.PendingQueue.{PendingQueue}
use Rattle.pending_queue.specs.Queue.{bytes_in, pending_in, Counted}
use Rattle.model.specs.Answers.{Found}

-- the leading run of a message in each ring
abbrev pub runs : (number : ℕ) → Pending → List Chunk
runs n p = take_while (is_of n) p.ordered ++ take_while (is_of n) p.unordered

-- both go; if the head was of the message, nothing is under way then
abbrev pub without_runs : (number : ℕ) → Pending → Pending
without_runs n p =
    record { under_way = ended n (head p) p.under_way; unordered = drop_run n p.unordered; ordered = drop_run n p.ordered }

-- the bytes that they held and the last of them are told; the counter stays the sum
abbrev pub Removes : (number : ℕ) → PendingQueue → (unordered ordered : List ℕ) → PendingQueue → (held : ℕ) → Found → Type 0
Removes n q u o q' sum end =
    (pending_in q' u o ≡ without_runs n (pending_in q u o)) × (sum ≡ bytes (runs n (pending_in q u o))) × (end ≡ found (last (runs n (pending_in q u o)))) × (Counted q u o → Counted q' u o)

-- of one ring: `l` before and `m` then. The bytes are below 2 ^ 62, so those of two rings fit
abbrev pub LeadingRun : (number : ℕ) → (l m : List Chunk) → (held : ℕ) → Found → Type 0
LeadingRun n l m sum end = (m ≡ drop_run n l) × (sum ≡ bytes (take_while (is_of n) l)) × (end ≡ found (last (take_while (is_of n) l))) × (sum ≤ 4611686017353646080)

-- the SSNs of a stream drop by 1 in the ordered ring; the counter stays the sum
abbrev pub ClosesGap : (stream : ℕ) → PendingQueue → (ordered ordered' : List ℕ) → Type 0
ClosesGap id q o o' =
    (held q.ordered o' ≡ map (lowered id) (held q.ordered o)) × ((unordered : List ℕ) → Counted q unordered o → Counted q unordered o')

-- ---- where a message's chunks are a leading run of each ring, that is the model's removal of all of them

module _ (n : ℕ) where
  keep_short : (p : Chunk → Bool) (l : List Chunk) → length (keep p l) ≤ length l
  keep_short p [] = omega arith
  keep_short p (c ∷ l) = by (p c) (keep_short p l)
    where
      by : (b : Bool) → length (keep p l) ≤ length l → length (when b then (c ∷ keep p l) else keep p l) ≤ suc (length l)
      by true h = omega arith
      by false h = omega arith

  -- a list of which all others are kept has none of the message
  none_kept : (l : List Chunk) → keep (λ (d : Chunk). not (is_of n d)) l ≡ l → [] ≡ keep (is_of n) l
  none_kept [] e = refl
  none_kept (c ∷ l) e = by (is_of n c) e (none_kept l)
    where
      by : (b : Bool) → (when not b then (c ∷ keep (λ (d : Chunk). not (is_of n d)) l) else keep (λ (d : Chunk). not (is_of n d)) l) ≡ c ∷ l
          → (keep (λ (d : Chunk). not (is_of n d)) l ≡ l → [] ≡ keep (is_of n) l) → [] ≡ (when b then (c ∷ keep (is_of n) l) else keep (is_of n) l)
      by true e h = absurd (omega (arith, ap length e, keep_short (λ (d : Chunk). not (is_of n d)) l))
      by false e h = h (tail-eq_of_cons-eq e)

  run_kept : (l : List Chunk) → keep (λ (d : Chunk). not (is_of n d)) l ≡ drop_run n l → take_while (is_of n) l ≡ keep (is_of n) l
  run_kept [] e = refl
  run_kept (c ∷ l) e = by (is_of n c) e (run_kept l)
    where
      by : (b : Bool) → (when not b then (c ∷ keep (λ (d : Chunk). not (is_of n d)) l) else keep (λ (d : Chunk). not (is_of n d)) l) ≡ (when b then drop_run n l else (c ∷ l))
          → (keep (λ (d : Chunk). not (is_of n d)) l ≡ drop_run n l → take_while (is_of n) l ≡ keep (is_of n) l)
          → (when b then (c ∷ take_while (is_of n) l) else []) ≡ (when b then (c ∷ keep (is_of n) l) else keep (is_of n) l)
      by true e h = ap (λ (r : List Chunk). c ∷ r) (h e)
      by false e h = none_kept l (tail-eq_of_cons-eq e)

  module _ (p : Pending) (e : (l : Lane) → keep (λ (d : Chunk). not (is_of n d)) (at l p) ≡ drop_run n (at l p)) where
    pub runs_without : without_runs n p ≡ without n p
    runs_without = λ i. record { under_way = ended n (head p) p.under_way; unordered = sym (e Unordered) i; ordered = sym (e Ordered) i }

    pub runs_pending : runs n p ≡ pending_of n p
    runs_pending = ap₂ (λ (a b : List Chunk). a ++ b) (run_kept p.ordered (e Ordered)) (run_kept p.unordered (e Unordered))

-- ---- what is under way then, as code finds it

module _ (n : ℕ) (w : UnderWay) where
  pub ended_none : (h : Option Chunk) → found h ≡ None → w ≡ ended n h w
  ended_none h e = sym (ap (λ (o : Option Chunk). ended n o w) (found_none h e))

  ended_by : (h : Option Chunk) (c : Chunk) → found h ≡ Some c → (when is_of n c then Idle else w) ≡ ended n h w
  ended_by h c e = sym (ap (λ (o : Option Chunk). ended n o w) (found_some h c e))

  pub ended_one : (h : Option Chunk) (c : Chunk) → found h ≡ Some c → c.message.number ≡ n → Idle ≡ ended n h w
  ended_one h c e q = sym (ap (λ (b : Bool). when b then Idle else w) (eq-eqb c.message.number n q)) ∙ ended_by h c e

  pub ended_other : (h : Option Chunk) (c : Chunk) → found h ≡ Some c → (c.message.number ≢ n) → w ≡ ended n h w
  ended_other h c e q = sym (ap (λ (b : Bool). when b then Idle else w) (ne_eqb c.message.number n q)) ∙ ended_by h c e

-- ---- what is left, and its bytes

pub drop_run_lem : (n : ℕ) (l : List Chunk) → drop_while (is_of n) l ≡ drop_run n l
drop_run_lem n [] = refl
drop_run_lem n (c ∷ l) = ap (λ (r : List Chunk). when is_of n c then r else (c ∷ l)) (drop_run_lem n l)

run_bytes : (n : ℕ) (l : List Chunk) → bytes (drop_run n l) + bytes (take_while (is_of n) l) ≡ bytes l
run_bytes n [] = refl
run_bytes n (c ∷ l) = by (is_of n c) (run_bytes n l)
  where
    by : (b : Bool) → bytes (drop_run n l) + bytes (take_while (is_of n) l) ≡ bytes l
        → bytes (when b then drop_run n l else (c ∷ l)) + bytes (when b then (c ∷ take_while (is_of n) l) else []) ≡ bytes (c ∷ l)
    by true h = omega arith
    by false h = omega arith

pub runs_bytes : (n : ℕ) (p : Pending) → bytes_in (without_runs n p) + bytes (runs n p) ≡ bytes_in p
runs_bytes n p =
    omega (arith, run_bytes n p.unordered, run_bytes n p.ordered, bytes_append (take_while (is_of n) p.ordered) (take_while (is_of n) p.unordered))

-- ---- the last of two lists

abbrev pub later_of : Found → Found → Found
later_of f None = f
later_of f (Some c) = Some c

-- the second if there is one, else the first
pub later_is : (f g : Found) → option_or g f ≡ later_of f g
later_is f None = refl
later_is f (Some c) = refl

later_none : (f : Found) → later_of None f ≡ f
later_none None = refl
later_none (Some c) = refl

later_assoc : (f g h : Found) → later_of f (later_of g h) ≡ later_of (later_of f g) h
later_assoc f g None = refl
later_assoc f g (Some c) = refl

last_cons : (c : Chunk) (l : List Chunk) → found (last (c ∷ l)) ≡ later_of (Some c) (found (last l))
last_cons c [] = refl
last_cons c (d ∷ l) =
    last_cons d l ∙ by (found (last l)) ∙ ap (later_of (Some c)) (sym (last_cons d l))
  where
    by : (f : Found) → later_of (Some d) f ≡ later_of (Some c) (later_of (Some d) f)
    by None = refl
    by (Some e) = refl

pub last_append : (l m : List Chunk) → found (last (l ++ m)) ≡ later_of (found (last l)) (found (last m))
last_append [] m = sym (later_none (found (last m)))
last_append (c ∷ l) m =
    last_cons c (l ++ m) ∙ ap (later_of (Some c)) (last_append l m) ∙ later_assoc (Some c) (found (last l)) (found (last m))
    ∙ ap (λ (f : Found). later_of f (found (last m))) (sym (last_cons c l))

-- ---- a loop that takes a run from the front of l: `m` is what is left, `sum` and `end` the bytes and the last of what was taken

pub record Taking (p : Chunk → Bool) (l m : List Chunk) (sum : ℕ) (end : Found) : Type 0 where
  pub rest : drop_while p m ≡ drop_while p l
  pub taken : sum + bytes (take_while p m) ≡ bytes (take_while p l)
  pub ends : later_of end (found (last (take_while p m))) ≡ found (last (take_while p l))

-- what the loop leaves
abbrev pub Taken : (p : Chunk → Bool) (l m : List Chunk) (sum : ℕ) (end : Found) → Type 0
Taken p l m sum end = (m ≡ drop_while p l) × (sum ≡ bytes (take_while p l)) × (end ≡ found (last (take_while p l)))

module _ (p : Chunk → Bool) (l : List Chunk) where
  pub taking_start : Taking p l l 0 None
  taking_start = record { rest = refl; taken = omega arith; ends = later_none (found (last (take_while p l))) }

  module _ {m : List Chunk} {sum : ℕ} {end : Found} (t : Taking p l m sum end) where
    pub taking_turn : {x : Chunk} {more m' : List Chunk} → m ≡ x ∷ more → p x ≡ true → m' ≡ more → Taking p l m' (sum + x.length) (Some x)
    taking_turn {x} {more} q h e =
        let k = take_hit p q h in
        record {
          rest = ap (drop_while p) e ∙ sym (drop_hit p q h) ∙ t.rest;
          taken = omega (arith, t.taken, ap bytes k, ap (λ (r : List Chunk). bytes (take_while p r)) e);
          ends =
              ap (λ (r : List Chunk). later_of (Some x) (found (last (take_while p r)))) e
              ∙ sym (later_assoc end (Some x) (found (last (take_while p more))))
              ∙ ap (later_of end) (sym (last_cons x (take_while p more)) ∙ sym (ap (λ (r : List Chunk). found (last r)) k))
              ∙ t.ends;
        }

    over : take_while p m ≡ [] → drop_while p m ≡ m → Taken p l m sum end
    over a b = (sym b ∙ t.rest, omega (arith, t.taken, ap bytes a), sym (ap (λ (r : List Chunk). later_of end (found (last r))) a) ∙ t.ends)

    pub taking_stop : {x : Chunk} {more : List Chunk} → m ≡ x ∷ more → p x ≡ false → Taken p l m sum end
    taking_stop q h = over (take_miss p q h) (drop_miss p q h)

    pub taking_none : m ≡ [] → Taken p l m sum end
    taking_none z = over (ap (take_while p) z) (ap (drop_while p) z ∙ sym z)
