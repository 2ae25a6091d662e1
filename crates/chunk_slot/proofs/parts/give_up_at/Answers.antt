-- Two words are written where the chunk is of the message; of another message the chunk stays, and holds nothing of it.
use mathlib.Core.Path.{◌∙◌, sym}
use native.Mathlib.Omega.{arith}
use lib.ListN.{get_or, length-set}
use borrow.Author.Tests.{eq-eqb, ne_eqb}
use Rattle.model.specs.Rings.{given_up}
use Rattle.rows.specs.Adjusts.{adjust_same}
use Rattle.chunk_slot.specs.Chunks.{chunks, blank_chunk}
use Rattle.chunk_slot.specs.Changes.{adjust_past, held_past, number_in, length_in, held_other, held_own, given_other, give_slot}
use Rattle.chunk_slot.proofs.parts.give_up_at.Goals as goal

pub returns-then-room-i : goal.returns-then-room-i
returns-then-room-i c =
    let a = c.args in
    let ws = a.cells.now in
    (held_past a.number a.i ws (omega arith), adjust_past (given_up a.number) a.i ws (omega arith))

pub returns-then-cells-at : goal.returns-then-cells-at
returns-then-cells-at c =
    let a = c.args in
    let ws = a.cells.now in
    let x = get_or (chunks ws) a.i blank_chunk in
    let q = number_in a.i ws (omega arith) in
    let other = ne_eqb x.message.number a.number (λ e. c.if-cells-at.true (q ∙ e)) in
    (sym (held_other a.number x other), sym (adjust_same (given_up a.number) a.i (chunks ws) blank_chunk (given_other a.number x other)))

pub bounds-cells-at-5 : goal.bounds-cells-at-5
bounds-cells-at-5 c = simp length-set (omega arith)

pub returns : goal.returns
returns c =
    let a = c.args in
    let ws = a.cells.now in
    let x = get_or (chunks ws) a.i blank_chunk in
    let q = number_in a.i ws (omega arith) in
    let own = eq-eqb x.message.number a.number (sym q ∙ c.if-cells-at.false) in
    (length_in a.i ws (omega arith) ∙ sym (held_own a.number x own), give_slot a.i ws (omega arith) a.number _ c.if-cells-at.false c.left_off-marks.ensures)
