-- The least deadline of the entries that are not abandoned, and what a change of the entries does to it. Before it nothing is overdue.
use Rattle.std.specs.Prelude.{◌≡◌, ℕ, zero, suc, ◌+◌, ◌%◌, ◌<◌, ◌≤◌, min, Bool, true, false, List, [], ◌∷◌, ◌++◌, map, length, drop, nat_lt, refl, Some, None}
use Rattle.std.proofs.Common.{ap, sym, ◌∙◌, arith}
use Rattle.std.proofs.lemmas.Bool.{lt-leb}
use Rattle.limits.specs.Limits.{tsns}
use Rattle.limits.specs.Moments.{passed, Moment}
use Rattle.model.specs.declared.Chunk.{Chunk}
use Rattle.model.specs.Lists.{when◌then◌else◌, adjust}
use Rattle.model.specs.State.{is_of}
use Rattle.model.specs.Rings.{tsns_of, marked, given_up}
use Rattle.model.specs.Flight.{acknowledged, to_retransmit}
use Rattle.rows.specs.Joins.{pushed}
use Rattle.payload_queue.specs.Queue.{never, due_at, due_of, least_due, overdue_entry}
use Rattle.payload_queue.specs.OneRun.{given_up_run, given_up_from}
use Rattle.payload_queue.specs.Cases.{not_abandoned, alive}
use Rattle.payload_queue.specs.Queue.{Pending}

-- ---- of an entry: abandoned, or not

pub due_none : (c : Chunk) → c.abandoned ≡ true → never ≡ due_of c
unfolding due_of
due_none c e = rw e

pub due_some : (c : Chunk) {m : Moment} → c.abandoned ≡ false → c.message.deadline ≡ m → due_at m ≡ due_of c
unfolding due_of
due_some c e d = rw (e, d)

-- ---- of all

pub least_never : (l : List Chunk) → least_due l ≤ never
least_never [] = omega arith
least_never (c ∷ l) = omega (arith, least_never l)

-- ---- one more, one less

least_append : (l : List Chunk) (c : Chunk) → least_due (l ++ (c ∷ [])) ≡ min (least_due l) (due_of c)
least_append [] c = omega arith
least_append (d ∷ l) c = omega (arith, least_append l c)

pub least_pushed : (room : ℕ) (l : List Chunk) (c : Chunk) → nat_lt (length l) room ≡ true → least_due (pushed room l c) ≡ min (least_due l) (due_of c)
least_pushed room l c e = ap (λ (b : Bool). least_due (when b then l ++ (c ∷ []) else l)) e ∙ least_append l c

pub least_stay : (room : ℕ) (l : List Chunk) (c : Chunk) → nat_lt (length l) room ≡ false → least_due (pushed room l c) ≡ least_due l
least_stay room l c e = ap (λ (b : Bool). least_due (when b then l ++ (c ∷ []) else l)) e

pub least_rest : (l : List Chunk) {c : Chunk} {m : List Chunk} → l ≡ c ∷ drop 1 l → m ≡ drop 1 l → least_due l ≤ least_due m
least_rest l e q = omega (arith, ap least_due e, ap least_due q)

-- ---- entries are marked

pub least_acked : (i : ℕ) (l : List Chunk) → least_due (adjust acknowledged i l) ≡ least_due l
unfolding due_of
least_acked zero [] = refl
least_acked (suc i) [] = refl
least_acked zero (c ∷ l) = refl
least_acked (suc i) (c ∷ l) = ap (min (due_of c)) (least_acked i l)

pub least_marked : (l : List Chunk) → least_due (map to_retransmit l) ≡ least_due l
unfolding due_of
least_marked [] = refl
least_marked (c ∷ l) = ap (min (due_of c)) (least_marked l)

given_never : (c : Chunk) → due_of (marked 0 c.acked true false c) ≡ never
unfolding due_of
given_never c = refl

-- one that is given up has no deadline any more
given_run : (number : ℕ) (l : List Chunk) → least_due l ≤ least_due (given_up_run number l)
given_run number [] = omega arith
given_run number (c ∷ l) = one (is_of number c) refl (given_run number l)
  where
    one : (b : Bool) → is_of number c ≡ b → least_due l ≤ least_due (given_up_run number l) → least_due (c ∷ l) ≤ least_due (when b then (given_up number c ∷ given_up_run number l) else (c ∷ l))
    one true e h = omega (arith, h, ap (λ (b : Bool). due_of (when b then marked 0 c.acked true false c else c)) e, given_never c, least_never l)
    one false e h = omega arith

pub least_given : (number from : ℕ) (l : List Chunk) → least_due l ≤ least_due (given_up_from number from l)
least_given number zero l = given_run number l
least_given number (suc i) [] = omega arith
least_given number (suc i) (c ∷ l) = omega (arith, least_given number i l)

-- ---- before it nothing is overdue

none_passed : (now : ℕ) (m : Moment) → now < due_at m → passed now m ≡ false
none_passed now None h = refl
none_passed now (Some d) h = lt-leb d now h

not_due : (now : ℕ) (w : Pending) (c : Chunk) → now < due_of c → overdue_entry now w c ≡ false
unfolding due_of
not_due now w c h = go c.abandoned refl
  where
    go : (b : Bool) → c.abandoned ≡ b → overdue_entry now w c ≡ false
    go true e = sym (not_abandoned now w c e)
    go false e = sym (alive now w c e (none_passed now c.message.deadline (rw e at h)))

pub none_due : (now : ℕ) (w : Pending) (t : ℕ) (l : List Chunk) → now < least_due l → tsns_of (overdue_entry now w) t l ≡ []
none_due now w t [] h = refl
none_due now w t (c ∷ l) h =
    ap (λ (b : Bool). when b then (t ∷ tsns_of (overdue_entry now w) ((t + 1) % tsns) l) else tsns_of (overdue_entry now w) ((t + 1) % tsns) l) (not_due now w c (omega arith))
    ∙ none_due now w ((t + 1) % tsns) l (omega arith)
