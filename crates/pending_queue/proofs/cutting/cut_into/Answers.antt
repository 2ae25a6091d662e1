-- A loop that adds at the end: what is held and the fragments to come are what was held and all fragments.
use Rattle.std.proofs.Common.{Bool, false, eqb-true, eq-eqb, ne_eqb, ◌-◌, ◌≡◌, ℕ, ◌/◌, ◌<◌, min, true, eqb, [], ◌∷◌, ◌++◌, length, sym, refl, ap, ◌∙◌, arith, length-append, rules}
use Rattle.std.proofs.lemmas.Bool.{eqb-false}
use Rattle.model.specs.Messages.{piece, cut}
use Rattle.model.specs.Lists.{when◌then◌else◌}
use Rattle.cells.specs.Slots.{room_of, limit}
use Rattle.rows.specs.Joins.{pushed_room}
use Rattle.chunk_slot.specs.Meaning.{chunk_for}
use Rattle.ring.specs.Held.{held}
use Rattle.pending_queue.specs.Fragments.{fits_parts, cut_turn, cut_done}
use Rattle.pending_queue.proofs.cutting.cut_into.Goals as goal

-- the last of those to come is numbered 0
last_is : (k : ℕ) → 0 < k → eqb (k - 1) 0 ≡ eqb k 1
last_is k h = by k (eqb k 1) refl h
  where
    by : (j : ℕ) (b : Bool) → eqb j 1 ≡ b → 0 < j → eqb (j - 1) 0 ≡ b
    by j true e p = eq-eqb (j - 1) 0 (omega (arith, eqb-true j 1 e))
    by j false e p = ne_eqb (j - 1) 0 (λ q. eqb-false j 1 e (omega arith))

pub loop-k-init : goal.loop-k-init
loop-k-init c =
    let a = c.args in
    let n = c.fragments-k.ensures in
    let r = fits_parts (room_of a.cells.now) a.maximum a.offset a.length (held a.ring.now a.cells.now) c.requires in
    (refl, omega (arith, n.0, r.1), omega (arith, n.1, r.0), ap (λ (k : ℕ). held a.ring.now a.cells.now ++ cut a.message true k a.maximum a.offset a.length) n.0)

pub overflow_add-from : goal.overflow_add-from
overflow_add-from c = omega (arith, c.ranges.maximum.fits)

pub loop-k-preserved : goal.loop-k-preserved
loop-k-preserved c =
    let a = c.args in
    let l = c.loop-k in
    let m = held l.ring l.cells in
    let f = c.fragment-chunk in
    let w = c.pack in
    let x = chunk_for w.result in
    let room : room_of l.cells ≡ room_of a.cells.now = ap (λ (n : ℕ). min (n / 8) limit) l.invariant.0 in
    let more = c.loop-k-test.true in
    let h : length m < room_of l.cells = omega (arith, l.invariant.1, room, more) in
    let p = c.push.ensures.0 ∙ sym (pushed_room (room_of l.cells) m x h) in
    let q = w.ensures ∙ f.ensures ∙ ap (piece a.message l.first (eqb (l.k - 1) 0) l.from) c.size.ensures ∙ ap (λ (b : Bool). piece a.message l.first b l.from (when b then l.left else a.maximum)) (last_is l.k more) in (
      search rules,
      omega (arith, ap length p, length-append m (x ∷ []), l.invariant.1, more),
      omega (arith, c.ranges.maximum.fits, l.invariant.2, more),
      cut_turn a.message l.first l.k a.maximum l.from l.left m more q p (omega arith) l.invariant.3,
    )

pub returns : goal.returns
returns c =
    let a = c.args in
    let l = c.loop-k in
    cut_done a.message l.first l.k a.maximum l.from l.left (omega arith) l.invariant.3
