-- A loop that takes from the front: `Taking`.
use Rattle.std.proofs.Common.{length, ap, ◌∙◌, arith, length-drop, eq-eqb, ne_eqb}
use Rattle.rows.specs.Turns.{nil_of, read_turn}
use Rattle.chunk_slot.specs.Chunks.{blank_chunk}
use Rattle.ring.specs.Held.{held, held_limit}
use Rattle.pending_queue.specs.Runs.{drop_run_lem, taking_start, taking_turn, taking_stop, taking_none}
use Rattle.pending_queue.proofs.removal.remove_run.Goals as goal

pub loop-init : goal.loop-init
loop-init c = let a = c.args in (omega arith, omega (arith, held_limit a.ring.now a.cells.now), omega arith, taking_start _ _)

pub returns-then-chunk-number : goal.returns-then-chunk-number
returns-then-chunk-number c =
    let l = c.loop in
    let a = c.args in
    let r = taking_stop _ _ l.invariant.3 (read_turn (held l.ring a.cells.now) 0 blank_chunk c.nth-chunk.ensures (omega arith)) (ne_eqb _ _ c.if-chunk-number.true) in
    (r.0 ∙ drop_run_lem a.number (held a.ring.now a.cells.now), r.1, r.2, omega arith)

pub loop-preserved : goal.loop-preserved
loop-preserved c =
    let l = c.loop in
    let m = held l.ring c.args.cells.now in
    let s = c.drop_first.ensures in (
      omega (arith, ap length s, length-drop 1 m),
      omega arith,
      omega arith,
      taking_turn _ _ l.invariant.3 (read_turn m 0 blank_chunk c.nth-chunk.ensures (omega arith)) (eq-eqb _ _ c.if-chunk-number.false) s,
    )

pub returns : goal.returns
returns c =
    let l = c.loop in
    let a = c.args in
    let r = taking_none _ _ l.invariant.3 (nil_of (held l.ring a.cells.now) (omega arith)) in
    (r.0 ∙ drop_run_lem a.number (held a.ring.now a.cells.now), r.1, r.2, omega arith)
