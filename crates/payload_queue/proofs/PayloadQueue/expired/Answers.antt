-- Before the bound there is none; else the list, where it fits, and the bound is the least deadline then.
use Rattle.std.proofs.Common.{[], length, sym, refl, ap, ◌∙◌, arith, ltb-false, ltb-true}
use Rattle.rows.specs.Walks.{count}
use Rattle.ring.specs.Held.{held}
use Rattle.payload_queue.specs.Queue.{flight_of, overdue_entry, overdue_tsns}
use Rattle.payload_queue.specs.Listing.{length_tsns, no_room, fits, sought_none, sought_all, lists_as}
use Rattle.payload_queue.proofs.PayloadQueue.expired.Goals as goal
use Rattle.std.specs.Prelude.{Ok}

pub returns-then-clock-self : goal.returns-then-clock-self
returns-then-clock-self c =
    let a = c.args in
    let e = sought_none a.self.now.due a.clock a.pending (flight_of a.self.now a.cells.now) c.if-clock-self.true in
    (lists_as a.out.now e (fits [] a.out.now (omega arith)), (refl, λ h. h), λ n. refl)

pub returns-then-is_short : goal.returns-then-is_short
returns-then-is_short c =
    let a = c.args in
    let f = flight_of a.self.now a.cells.now in
    let p = overdue_entry a.clock a.pending in
    let short = ltb-true (length a.out.now) (count p f.entries) (sym c.is_short.ensures ∙ c.if-is_short.true) in
    let e = sought_all a.self.now.due a.clock a.pending f (omega (arith, c.if-clock-self.false)) in
    (lists_as a.out.now e (no_room (overdue_tsns a.clock a.pending f) a.out.now (omega (arith, length_tsns p a.self.now.oldest f.entries, short))), (refl, λ h. h), λ n. refl)

pub list_all-k-requires : goal.list_all-k-requires
list_all-k-requires c =
    let a = c.args in
    ltb-false (length a.out.now) (count (overdue_entry a.clock a.pending) (held a.self.now.ring a.cells.now)) (sym c.is_short.ensures ∙ c.if-is_short.false)

pub returns : goal.returns
returns c =
    let a = c.args in
    let f = flight_of a.self.now a.cells.now in
    let p = overdue_entry a.clock a.pending in
    let room = ltb-false (length a.out.now) (count p f.entries) (sym c.is_short.ensures ∙ c.if-is_short.false) in
    let g = fits (overdue_tsns a.clock a.pending f) a.out.now (omega (arith, length_tsns p a.self.now.oldest f.entries, room)) in
    let k = c.list_all-k.ensures in
    let e = sought_all a.self.now.due a.clock a.pending f (omega (arith, c.if-clock-self.false)) in
    (lists_as a.out.now e (ap Ok k.0 ∙ g.0, k.1 ∙ g.1), (refl, λ h. (h.0, omega (arith, c.least_deadline-self.ensures))), λ n. absurd (n refl))
