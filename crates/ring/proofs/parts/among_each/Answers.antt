-- A loop that reads: the stream is in the part if it is in what is left of it.
use mathlib.Core.Path.{refl, sym, ap, ◌∙◌}
use native.Mathlib.Omega.{arith}
use lib.Dec.{eqb}
use borrow.Author.Tests.{eq-eqb, ne_eqb}
use Rattle.model.specs.declared.Chunk.{Chunk}
use Rattle.model.specs.Flight.{has_stream}
use Rattle.rows.specs.Turns.{part_turn, part_none}
use Rattle.rows.specs.Walks.{some_hit, some_miss}
use Rattle.cells.specs.Slots.{length_slots}
use Rattle.chunk_slot.specs.Chunks.{chunk_in, chunks, blank_chunk}
use Rattle.ring.proofs.parts.among_each.Goals as goal

pub returns-then-stream_at-stream : goal.returns-then-stream_at-stream
returns-then-stream_at-stream c =
    let a = c.args in
    let l = chunks a.cells.now in
    let t = c.loop-at in
    sym (some_hit (λ (d : Chunk). eqb d.message.stream a.stream) (part_turn l t.at a.to blank_chunk refl (omega (arith, length_slots chunk_in a.cells.now))) (eq-eqb _ _ (sym c.stream_at.ensures ∙ c.if-stream_at-stream.true))) ∙ t.invariant

pub loop-at-preserved : goal.loop-at-preserved
loop-at-preserved c =
    let a = c.args in
    let l = chunks a.cells.now in
    let t = c.loop-at in
    sym (some_miss (λ (d : Chunk). eqb d.message.stream a.stream) (part_turn l t.at a.to blank_chunk refl (omega (arith, length_slots chunk_in a.cells.now))) (ne_eqb _ _ (λ e. c.if-stream_at-stream.false (c.stream_at.ensures ∙ e)))) ∙ t.invariant

pub returns : goal.returns
returns c =
    let a = c.args in
    let l = chunks a.cells.now in
    let t = c.loop-at in
    sym (ap (has_stream a.stream) (part_none l t.at a.to (omega (arith, length_slots chunk_in a.cells.now)))) ∙ t.invariant
