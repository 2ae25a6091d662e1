-- A law for each way out.
use mathlib.Core.Path.{◌≡◌, refl, sym, ap, ◌∙◌}
use Prim.Native.Nat.{ℕ, ◌/◌, min}
use lib.ListN.{length}
use Rattle.cells.specs.Slots.{limit}
use Rattle.chunk_slot.specs.Meaning.{chunk_for, found_for}
use Rattle.outbound_queue.specs.Outbound.{ring_room, sender_of, does}
use Rattle.outbound_send.specs.Sends.{lean_send_lem, send_late, in_range, send_full, send_none, send_one}
use borrow.Author.Rules.{rules}
use Rattle.outbound_send.proofs.send_next.Goals as goal

pub returns-then-clock-gt-CLOCK_MAX : goal.returns-then-clock-gt-CLOCK_MAX
returns-then-clock-gt-CLOCK_MAX c =
    let a = c.args in
    ((λ room ts r. does (λ g. lean_send_lem a.clock g room) (send_late room a.clock (sender_of ts a.q.now a.cells.now) c.if-clock-gt-CLOCK_MAX.true), λ h. h), λ n. (refl, refl))

pub returns-then-is_blocked : goal.returns-then-is_blocked
returns-then-is_blocked c =
    let a = c.args in
    let b = sym c.is_blocked.ensures ∙ c.if-is_blocked.true in
    ((λ room ts r. does (λ g. lean_send_lem a.clock g room) (send_full room a.clock (sender_of ts a.q.now a.cells.now) r c.if-clock-gt-CLOCK_MAX.false b), λ h. h), λ n. (refl, refl))

pub returns-in_default : goal.returns-in_default
returns-in_default c =
    let a = c.args in
    let h = c.if-clock-gt-CLOCK_MAX.false in
    let e = c.start_rings.ensures in
    let t = c.take_head.ensures in
    let q = sym t.1 ∙ ap found_for c.in_default.is in (
      (
        λ room ts r.
            let s = sender_of ts a.q.now a.cells.now in
            does (λ g. lean_send_lem a.clock g room) (send_none room a.clock s r h (in_range a.clock s h (e.0 ts)) (t.0.0 ts) q),
        λ k. t.0.1 (e.1 k),
      ),
      λ n. absurd (n refl),
    )

pub shape_of-cells : goal.shape_of-cells
shape_of-cells c = let q = c.start_rings in search rules

pub returns : goal.returns
returns c =
    let a = c.args in
    let h = c.if-clock-gt-CLOCK_MAX.false in
    let e = c.start_rings.ensures in
    let t = c.take_head.ensures in
    let f = c.file.ensures in
    let fits = sym c.is_blocked.ensures ∙ c.if-is_blocked.false in
    let vs = c.start_rings.new.cells in
    let len : length vs ≡ length a.cells.now = let q = c.start_rings in search rules in
    let room-stays : ring_room vs ≡ ring_room a.cells.now = ap (λ (n : ℕ). min (n / 24) limit) len in (
      (
        λ room ts r.
            let s = sender_of ts a.q.now a.cells.now in
            does (λ g. lean_send_lem a.clock g room)
            (send_one room a.clock s r h (in_range a.clock s h (e.0 ts)) (t.0.0 ts) (chunk_for c.in-Some.words) (sym t.1 ∙ ap found_for c.in-Some.is) fits c.unpack.ensures c.stamped-stamped.ensures room-stays (f.0 ts) (c.next_tsn-tsn.ensures ts)),
        λ k. f.1 (t.0.1 (e.1 k)),
      ),
      λ n. absurd (n refl),
    )
