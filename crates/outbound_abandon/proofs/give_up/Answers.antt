-- The entries, the pending chunks, and the terminator where there were some.
use mathlib.Core.Path.{◌≡◌, sym, ap, ◌∙◌}
use Prim.Native.Nat.{ℕ, ◌/◌, min}
use native.Mathlib.Omega.{arith}
use lib.ListN.{length}
use Rattle.cells.specs.Slots.{limit}
use Rattle.ring.specs.Sums.{held_bytes}
use Rattle.payload_queue.specs.OneRun.{first_of, from_bytes}
use Rattle.pending_queue.specs.Runs.{runs_bytes}
use Rattle.outbound_queue.specs.Outbound.{rings_in, ring_room, waiting, flying, sender_of}
use Rattle.outbound_abandon.specs.Abandons.{gives_none, gives_one, gives_held}
use borrow.Author.Rules.{rules}
use Rattle.outbound_abandon.proofs.give_up.Goals as goal

pub overflow_add-bytes : goal.overflow_add-bytes
overflow_add-bytes c =
    let a = c.args in
    let g = c.give_up_entries-freed in
    let q = g.new.self in
    let r = rings_in g.new.cells in
    let f = rings_in a.cells.now in
    omega (
      arith,
      g.ensures.1,
      c.remove_pending-removed.ensures.1,
      from_bytes a.number (first_of a.number a.near (flying a.q.now f).entries) (flying a.q.now f).entries,
      held_bytes a.q.now.inflight.ring f.flight,
      runs_bytes a.number (waiting q r),
      held_bytes q.pending.unordered r.unordered,
      held_bytes q.pending.ordered r.ordered,
    )

pub returns-in_default : goal.returns-in_default
returns-in_default c =
    let a = c.args in
    let g = c.give_up_entries-freed.ensures in
    let r = c.remove_pending-removed.ensures in
    let n = sym r.2 ∙ c.in_default.is in (
      λ room ts h. let s = sender_of ts a.q.now a.cells.now in (gives_none room a.number a.near s (g.0.0 ts) (r.0.0 ts) n, gives_held a.number a.near s (g.0.0 ts) g.1 r.1),
      λ k. r.0.1 (g.0.1 k),
    )

pub shape_of-cells : goal.shape_of-cells
shape_of-cells c = let q = c.give_up_entries-freed in search rules

pub returns : goal.returns
returns c =
    let a = c.args in
    let g = c.give_up_entries-freed in
    let r = c.remove_pending-removed.ensures in
    let f = c.file.ensures in
    let n = sym r.2 ∙ c.in-Some.is in
    let vs = g.new.cells in
    let len : length vs ≡ length a.cells.now = let q = g in search rules in
    let room-stays : ring_room vs ≡ ring_room a.cells.now = ap (λ (n : ℕ). min (n / 24) limit) len in
    let e = g.ensures in (
      λ room ts h.
          let s = sender_of ts a.q.now a.cells.now in (
            gives_one room a.number a.near s (e.0.0 ts) (r.0.0 ts) c.in-Some.last n (c.pack-words.ensures ∙ c.terminate.ensures) (room-stays ∙ sym h) (f.0 ts),
            gives_held a.number a.near s (e.0.0 ts) e.1 r.1,
          ),
      λ k. f.1 (r.0.1 (e.0.1 k)),
    )
