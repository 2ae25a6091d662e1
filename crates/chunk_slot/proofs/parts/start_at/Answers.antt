-- Two words are written where the chunk has a lifetime to start; else the chunk stays.
use mathlib.Core.Path.{◌∙◌, sym, ap}
use mathlib.Core.Bool.{Bool, not, ◌&&◌, and-false}
use Prim.Native.Nat.{ℕ, ◌+◌, ◌*◌, min}
use native.Mathlib.Omega.{arith}
use lib.ListN.{get_or, length-set}
use lib.Dec.{leb, eqb}
use borrow.Author.Tests.{eq-eqb, ne_eqb, lt-leb}
use Rattle.limits.specs.Limits.{clock_max}
use Rattle.model.specs.Lists.{adjust}
use Rattle.model.specs.Rings.{started, has_lifetime}
use Rattle.rows.specs.Adjusts.{adjust_same}
use Rattle.chunk_slot.specs.Chunks.{chunks, blank_chunk}
use Rattle.chunk_slot.specs.Changes.{adjust_past, number_in, kind_in, protocol_in, started_not, start_slot}
use Rattle.chunk_slot.proofs.parts.start_at.Goals as goal

pub returns-then-room-i : goal.returns-then-room-i
returns-then-room-i c = let a = c.args in adjust_past (started (min a.clock clock_max) a.unstarted) a.i a.cells.now (omega arith)

pub returns-then-cells-at : goal.returns-then-cells-at
returns-then-cells-at c =
    let a = c.args in
    let ws = a.cells.now in
    let x = (get_or (chunks ws) a.i blank_chunk).message in
    let old = lt-leb a.unstarted x.number (omega (arith, number_in a.i ws (omega arith))) in
    let s = started (min a.clock clock_max) a.unstarted in
    sym (adjust_same s a.i (chunks ws) blank_chunk (started_not _ _ _ (ap (λ (b : Bool). b && has_lifetime x) old)))

pub returns-then-marks-ne2 : goal.returns-then-marks-ne2
returns-then-marks-ne2 c =
    let a = c.args in
    let ws = a.cells.now in
    let x = (get_or (chunks ws) a.i blank_chunk).message in
    let q = kind_in a.i ws (omega arith) in
    let kept = ne_eqb x.reliability.kind 2 (λ e. c.if-marks-ne2.true (q ∙ e)) in
    let s = started (min a.clock clock_max) a.unstarted in
    sym
    (adjust_same s a.i (chunks ws) blank_chunk
    (started_not _ _ _ (ap (λ (b : Bool). leb a.unstarted x.number && (b && not (eqb x.protocol 50))) kept ∙ and-false (leb a.unstarted x.number))))

pub returns-then-types-eq50 : goal.returns-then-types-eq50
returns-then-types-eq50 c =
    let a = c.args in
    let ws = a.cells.now in
    let x = (get_or (chunks ws) a.i blank_chunk).message in
    let q = protocol_in a.i ws (omega arith) in
    let dcep = eq-eqb x.protocol 50 (sym q ∙ c.if-types-eq50.true) in
    let timed = eqb x.reliability.kind 2 in
    let s = started (min a.clock clock_max) a.unstarted in
    sym
    (adjust_same s a.i (chunks ws) blank_chunk
    (started_not _ _ _ (ap (λ (b : Bool). leb a.unstarted x.number && (timed && not b)) dcep ∙ ap (λ (b : Bool). leb a.unstarted x.number && b) (and-false timed) ∙ and-false (leb a.unstarted x.number))))

pub overflow_add-deadline : goal.overflow_add-deadline
overflow_add-deadline c = let a = c.args in omega (arith, c.type_inv.cells (a.i * 8 + 4))

pub bounds-cells-at-5 : goal.bounds-cells-at-5
bounds-cells-at-5 c = simp length-set (omega arith)

pub returns : goal.returns
returns c =
    let a = c.args in
    let ws = a.cells.now in
    start_slot a.i ws (omega arith) c.min.result a.unstarted c.with_deadline-timed.result (omega arith) c.if-marks-ne2.false c.if-types-eq50.false c.with_deadline-timed.ensures
    ∙ ap (λ (t : ℕ). adjust (started t a.unstarted) a.i (chunks ws)) c.min.ensures
