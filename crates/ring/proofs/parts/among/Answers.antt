-- A loop that reads four in a turn: the stream is in the part if it is in what is left of it; the rest is read one by one.
use mathlib.Core.Path.{refl, sym, ap, ◌∙◌}
use mathlib.Core.Bool.{Bool, ◌||◌}
use Prim.Native.Nat.{◌+◌}
use native.Mathlib.Omega.{arith}
use Rattle.model.specs.Flight.{has_stream}
use Rattle.rows.specs.Parts.{part}
use Rattle.rows.specs.Turns.{part_none}
use Rattle.cells.specs.Slots.{length_slots}
use Rattle.chunk_slot.specs.Chunks.{chunk_in, chunks}
use Rattle.ring.proofs.parts.among.Goals as goal

pub returns-then-end-from : goal.returns-then-end-from
returns-then-end-from c =
    let a = c.args in
    let n = length_slots chunk_in a.cells.now in
    sym (ap (has_stream a.stream) (part_none (chunks a.cells.now) a.from a.to (omega (arith, n))))

pub loop-at-init : goal.loop-at-init
loop-at-init c = (omega arith, omega arith, refl)

pub returns-then-among_four : goal.returns-then-among_four
returns-then-among_four c =
    let a = c.args in
    let t = c.loop-at in
    ap (λ (x : Bool). x || has_stream a.stream (part (t.at + 4) a.to (chunks a.cells.now))) (sym c.if-among_four.true)
    ∙ c.among_four.ensures a.to (omega arith) ∙ t.invariant.2

pub loop-at-preserved : goal.loop-at-preserved
loop-at-preserved c =
    let a = c.args in
    let t = c.loop-at in (
      omega arith,
      t.invariant.1,
      ap (λ (x : Bool). x || has_stream a.stream (part (t.at + 4) a.to (chunks a.cells.now))) (sym c.if-among_four.false)
          ∙ c.among_four.ensures a.to (omega arith) ∙ t.invariant.2,
    )

pub returns : goal.returns
returns c = c.among_each.ensures ∙ c.loop-at.invariant.2
