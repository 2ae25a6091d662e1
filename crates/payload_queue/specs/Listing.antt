-- The list of TSNs of the entries that pass a test: a step of it, its length, and how it is written into a lent list.
use Rattle.std.specs.Prelude.{◌≡◌, ℕ, ◌+◌, ◌%◌, ◌<◌, ◌≤◌, Bool, true, false, List, [], ◌∷◌, ◌++◌, length, drop, slice_set, refl, Ok, Err}
use Rattle.std.proofs.Common.{sym, ap, subst, ◌∙◌, arith, lt-ltb, le-ltb}
use Rattle.limits.specs.Limits.{tsns}
use Rattle.model.specs.declared.Chunk.{Chunk}
use Rattle.model.specs.Lists.{when◌then◌else◌}
use Rattle.model.specs.State.{Flight}
use Rattle.model.specs.Rings.{tsns_of}
use Rattle.rows.specs.Walks.{count}
use Rattle.rows.specs.Fills.{Filled, fill_below, fill_turn, fill_length, fill_as, fill_met}
use Rattle.payload_queue.specs.Queue.{listed, written, Lists, overdue_tsns, sought_tsns}
use Rattle.limits.specs.declared.Refusal.TheVariants.{ListShort}
use Rattle.model.specs.Answers.{Listed}
use Rattle.payload_queue.specs.Queue.{Pending}

-- the TSN after this one
abbrev pub next : ℕ → ℕ
next t = (t + 1) % tsns

module _ (p : Chunk → Bool) where
  -- ---- a step, at entries that are known to be `x ∷ rest`
  module _ (t : ℕ) {l rest : List Chunk} {x : Chunk} (q : l ≡ x ∷ rest) where
    pub tsns_hit : p x ≡ true → tsns_of p t l ≡ t ∷ tsns_of p (next t) rest
    tsns_hit h = ap (tsns_of p t) q ∙ ap (λ (b : Bool). when b then (t ∷ tsns_of p (next t) rest) else tsns_of p (next t) rest) h

    pub tsns_miss : p x ≡ false → tsns_of p t l ≡ tsns_of p (next t) rest
    tsns_miss h = ap (tsns_of p t) q ∙ ap (λ (b : Bool). when b then (t ∷ tsns_of p (next t) rest) else tsns_of p (next t) rest) h

  -- ---- as long as there are entries that pass
  pub length_tsns : (t : ℕ) (l : List Chunk) → length (tsns_of p t l) ≡ count p l
  length_tsns t [] = refl
  length_tsns t (c ∷ l) = picked (p c) (tsns_of p (next t) l) ∙ ap (λ (n : ℕ). (when p c then 1 else 0) + n) (length_tsns (next t) l)
    where
      picked : (b : Bool) (r : List ℕ) → length (when b then (t ∷ r) else r) ≡ (when b then 1 else 0) + length r
      picked true r = omega arith
      picked false r = omega arith

-- ---- no more pass than there are
pub count_within : (p : Chunk → Bool) (l : List Chunk) → count p l ≤ length l
count_within p [] = omega arith
count_within p (c ∷ l) = one (p c) (count_within p l)
  where
    one : (b : Bool) → count p l ≤ length l → (when b then 1 else 0) + count p l ≤ length (c ∷ l)
    one true h = omega arith
    one false h = omega arith

-- ---- refused, or written

module _ (ts out : List ℕ) where
  pub no_room : length out < length ts → (Err ListShort ≡ listed ts out) × (out ≡ written ts out)
  no_room h = let b = lt-ltb (length out) (length ts) h in (rw b, rw b)

  pub fits : length ts ≤ length out → (Ok (length ts) ≡ listed ts out) × (ts ++ drop (length ts) out ≡ written ts out)
  fits h = let b = le-ltb (length out) (length ts) h in (rw b, rw b)

-- ---- before the bound nothing is looked for

module _ (due now : ℕ) (w : Pending) (f : Flight) where
  pub sought_none : now < due → [] ≡ sought_tsns due now w f
  sought_none h = sym (ap (λ (b : Bool). when b then [] else overdue_tsns now w f) (lt-ltb now due h))

  pub sought_all : due ≤ now → overdue_tsns now w f ≡ sought_tsns due now w f
  sought_all h = sym (ap (λ (b : Bool). when b then [] else overdue_tsns now w f) (le-ltb now due h))

-- the same list by another name
pub lists_as : {ts us : List ℕ} (out : List ℕ) {out' : List ℕ} {answer : Listed} → ts ≡ us → Lists ts out out' answer → Lists us out out' answer
lists_as out {out'} {answer} e l = subst (λ (x : List ℕ). Lists x out out' answer) e l

-- ---- one more in the list, or not: `b` is what the test says of `x`, the first of `l`

module _ (ts out : List ℕ) (p : Chunk → Bool) (room : length ts ≤ length out) where
  pub fill_room : (t k : ℕ) {b : Bool} {x : Chunk} (l : List Chunk) {rest : List Chunk} (now : List ℕ) → b ≡ p x → l ≡ x ∷ rest → Filled ℕ ts out k now (tsns_of p t l) → b ≡ true → k < length now
  fill_room t k l now e q f y = omega (arith, fill_below (fill_as (tsns_hit p t q (sym e ∙ y)) f), fill_length room f)

  pub fill_step : (b : Bool) {x : Chunk} (t k : ℕ) (l rest : List Chunk) {now : List ℕ} → b ≡ p x → l ≡ x ∷ rest → Filled ℕ ts out k now (tsns_of p t l)
      → Filled ℕ ts out (k + (when b then 1 else 0)) (when b then slice_set now k t else now) (tsns_of p (next t) rest)
  fill_step true t k l rest e q f = fill_turn room (fill_as (tsns_hit p t q (sym e)) f)
  fill_step false t k l rest e q f = fill_met (omega arith) refl (fill_as (tsns_miss p t q (sym e)) f)
