-- A loop that writes a list into lent cells: what stands there and what is to come are the list. It fits.
use Rattle.std.proofs.Common.{◌+◌, drop, ap, arith}
use Rattle.model.specs.Rings.{tsns_of}
use Rattle.rows.specs.Turns.{read_turn, rest_none}
use Rattle.rows.specs.Fills.{fill_start, fill_length, fill_all, fill_done, fill_as, fill_met}
use Rattle.chunk_slot.specs.Chunks.{blank_chunk}
use Rattle.ring.specs.Held.{held}
use Rattle.payload_queue.specs.Queue.{overdue_entry, overdue_tsns}
use Rattle.payload_queue.specs.Listing.{length_tsns, fill_room, fill_step}
use Rattle.payload_queue.proofs.PayloadQueue.list_all.Goals as goal

pub loop-i-init : goal.loop-i-init
loop-i-init c =
    let a = c.args in
    let p = overdue_entry a.clock a.pending in
    let e = held a.self.now.ring a.cells.now in
    (omega (arith, length_tsns p a.self.now.oldest e, c.requires), fill_start _ _)

pub note-k-requires : goal.note-k-requires
note-k-requires c =
    let a = c.args in
    let l = c.loop-i in
    let p = overdue_entry a.clock a.pending in
    let e = held a.self.now.ring a.cells.now in
    let ts = overdue_tsns a.clock a.pending (record { oldest = a.self.now.oldest; entries = e }) in
    let r = read_turn e l.i blank_chunk c.nth-chunk.ensures (omega arith) in
    fill_room ts a.out.now p l.invariant.0 l.tsn l.k (drop l.i e) l.out c.is_overdue.ensures r l.invariant.1

pub loop-i-preserved : goal.loop-i-preserved
loop-i-preserved c =
    let a = c.args in
    let l = c.loop-i in
    let p = overdue_entry a.clock a.pending in
    let e = held a.self.now.ring a.cells.now in
    let ts = overdue_tsns a.clock a.pending (record { oldest = a.self.now.oldest; entries = e }) in
    let r = read_turn e l.i blank_chunk c.nth-chunk.ensures (omega arith) in
    let b = c.is_overdue in
    let n = c.note-k.ensures in
    let f = fill_step ts a.out.now p l.invariant.0 b.result l.tsn l.k (drop l.i e) (drop (l.i + 1) e) b.ensures r l.invariant.1 in
    (l.invariant.0, fill_met n.0 n.1 f)

pub shape_of-out : goal.shape_of-out
shape_of-out c = let l = c.loop-i in fill_length l.invariant.0 l.invariant.1

pub returns : goal.returns
returns c =
    let a = c.args in
    let l = c.loop-i in
    let p = overdue_entry a.clock a.pending in
    let e = held a.self.now.ring a.cells.now in
    let f = fill_as (ap (tsns_of p l.tsn) (rest_none e l.i (omega arith))) l.invariant.1 in
    (fill_all f, fill_done f)
