-- Questions beside 01's, which hosts missed: what each answers of the model's sender, and what the ways out of each come to. They are no calls of
-- the model.
use Rattle.std.specs.Prelude.{◌≡◌, refl, Bool, true, false, List, [], ◌∷◌, ℕ, ◌+◌, ◌-◌, ◌<◌, ◌≤◌, min, length, get_or, drop, Some, None}
use Rattle.std.proofs.Math.Path.{sym}
use Rattle.std.proofs.Common.{ap, ◌∙◌, arith}
use Rattle.limits.specs.Limits.{Room}
use Rattle.limits.specs.Moments.{earlier, Moment}
use Rattle.model.specs.declared.Chunk.{Chunk}
use Rattle.model.specs.Lists.{when◌then◌else◌}
use Rattle.model.specs.State.{Sender, at, lane_of}
use Rattle.model.specs.Rings.{head, tsns_of}
use Rattle.model.specs.Flight.{found, earliest}
use Rattle.rows.specs.Turns.{read_turn, rest_none}
use Rattle.chunk_slot.specs.Chunks.{blank_chunk}
use Rattle.model.specs.Answers.{Found, Earliest}

-- ---- the oldest TSN in flight, acknowledged or abandoned as it may be

abbrev pub oldest_of : (oldest : ℕ) → List Chunk → Earliest
oldest_of t l = earliest (tsns_of (λ c. true) t l)

abbrev pub oldest_tsn : Sender → Earliest
oldest_tsn s = oldest_of s.flight.oldest s.flight.entries

module _ (t : ℕ) {n : ℕ} where
  pub none_flies : (l : List Chunk) → n ≡ length l → n < 1 → None ≡ oldest_of t l
  none_flies [] e h = refl
  none_flies (c ∷ l) e h = absurd (omega (arith, e, h))

  pub oldest_flies : (l : List Chunk) → n ≡ length l → 1 ≤ n → Some t ≡ oldest_of t l
  oldest_flies [] e h = absurd (omega (arith, e, h))
  oldest_flies (c ∷ l) e h = refl

-- ---- how many more chunks the ring of unordered messages takes, or that of ordered ones

abbrev pub ring_left : Room → (unordered : Bool) → Sender → ℕ
ring_left room u s = room.ring - length (at (lane_of u) s.pending)

-- ---- the next deadline: the earliest of the head's and of those in flight that are not abandoned, where a missing one is none. An acknowledged
-- entry counts until it is popped

abbrev pub front_deadline : Found → Moment
front_deadline None = None
front_deadline (Some c) = c.message.deadline

unfoldable pub entry_deadline : Chunk → Moment
entry_deadline c = when c.abandoned then None else c.message.deadline

abbrev pub soonest : List Chunk → Moment
soonest [] = None
soonest (c ∷ l) = earlier (entry_deadline c) (soonest l)

abbrev pub next_deadline : Sender → Moment
next_deadline s = earlier (front_deadline (found (head s.pending))) (soonest s.flight.entries)

-- that of an entry, as code finds it out
module _ (c : Chunk) where
  abbrev by : (abandoned : Bool) → Moment
  by g = when g then None else c.message.deadline

  pub abandoned_none : c.abandoned ≡ true → None ≡ entry_deadline c
  unfolding entry_deadline
  abandoned_none e = sym (ap (λ (g : Bool). by g) e)

  pub other_has : c.abandoned ≡ false → c.message.deadline ≡ entry_deadline c
  unfolding entry_deadline
  other_has e = sym (ap (λ (g : Bool). by g) e)

-- a loop over the entries `l`, of which the first `i` are read, and `due` is the soonest of these

least : (x y z : ℕ) → min (min x y) z ≡ min x (min y z)
least x y z = omega arith

earlier_assoc : (a b d : Moment) → earlier (earlier a b) d ≡ earlier a (earlier b d)
earlier_assoc None b d = refl
earlier_assoc (Some x) None d = refl
earlier_assoc (Some x) (Some y) None = refl
earlier_assoc (Some x) (Some y) (Some z) = ap Some (least x y z)

earlier_absent : (d : Moment) → earlier d None ≡ d
earlier_absent None = refl
earlier_absent (Some x) = refl

module _ (l : List Chunk) (i : ℕ) (due : Moment) where
  pub read_soonest : {c : Chunk} {own next : Moment} → c ≡ get_or l i blank_chunk → i < length l → own ≡ entry_deadline c → next ≡ earlier due own
      → earlier next (soonest (drop (i + 1) l)) ≡ earlier due (soonest (drop i l))
  read_soonest {c} e h o q =
      ap (λ (m : Moment). earlier m (soonest (drop (i + 1) l))) (q ∙ ap (earlier due) o)
      ∙ earlier_assoc due (entry_deadline c) (soonest (drop (i + 1) l))
      ∙ sym (ap (λ (m : List Chunk). earlier due (soonest m)) (read_turn l i blank_chunk e h))

  pub soonest_done : length l ≤ i → due ≡ earlier due (soonest (drop i l))
  soonest_done h = sym (ap (λ (m : List Chunk). earlier due (soonest m)) (rest_none l i h) ∙ earlier_absent due)
