-- By what was found, and whether it is outstanding.
use mathlib.Core.Path.{sym, ◌∙◌}
use Rattle.model.specs.State.{in_flight}
use Rattle.model.specs.Data.{data_chunk}
use Rattle.sender_head.specs.Whole.{sender_of}
use Rattle.sender_asks.specs.Chunks.{no_entry_lem, settled_entry, entry_written}
use Rattle.sender_asks.proofs.chunks.data_chunk.Goals as goal

pub returns-in_default : goal.returns-in_default
unfolding data_chunk
returns-in_default c =
    let a = c.args in
    let s = sender_of a.h.now a.cells.now in
    no_entry_lem a.tsn a.bytes.now a.out.now (in_flight a.tsn s.flight) (sym c.in_default.is ∙ c.get-entry.ensures)

pub returns-then-not-is_outstanding : goal.returns-then-not-is_outstanding
unfolding data_chunk
returns-then-not-is_outstanding c =
    let a = c.args in
    let s = sender_of a.h.now a.cells.now in
    settled_entry a.tsn a.bytes.now a.out.now (in_flight a.tsn s.flight) _ (sym c.in-Some.is ∙ c.get-entry.ensures) (sym c.is_outstanding.ensures ∙ c.if-not-is_outstanding.true)

pub returns : goal.returns
unfolding data_chunk
returns c =
    let a = c.args in
    let s = sender_of a.h.now a.cells.now in
    entry_written a.tsn a.bytes.now a.out.now (in_flight a.tsn s.flight) _ (sym c.in-Some.is ∙ c.get-entry.ensures) (sym c.is_outstanding.ensures ∙ c.if-not-is_outstanding.false) c.write.ensures
