-- As they were where they do not fit, and else with all fragments, whose bytes are the message's.
use Rattle.std.proofs.Common.{ℕ, ◌+◌, sym, ap, ◌∙◌, arith}
use Rattle.std.specs.Prelude.{Bool, Some, None, Option as Maybe}
use Rattle.model.specs.Lists.{when◌then◌else◌}
use Rattle.model.specs.Rings.{bytes}
use Rattle.cells.specs.Slots.{room_of}
use Rattle.ring.specs.Held.{held}
use Rattle.pending_queue.specs.Fragments.{bytes_of, added_none, added_all, added_bytes}
use Rattle.pending_queue.proofs.cutting.push_fragments.Goals as goal

-- the answer, by the test
abbrev answer : (length maximum : ℕ) → Bool → Maybe ℕ
answer n m b = when b then Some (bytes_of n m) else None

pub returns-then-not-fitting : goal.returns-then-not-fitting
returns-then-not-fitting c =
    let a = c.args in
    let e = sym c.fitting.ensures ∙ c.if-not-fitting.true in
    (added_none (room_of a.cells.now) a.maximum a.offset a.length (held a.ring.now a.cells.now) a.message e, sym (ap (answer a.length a.maximum) e), omega arith)

pub cut_into-requires : goal.cut_into-requires
cut_into-requires c = sym c.fitting.ensures ∙ c.if-not-fitting.false

pub returns : goal.returns
returns c =
    let a = c.args in
    let e = sym c.fitting.ensures ∙ c.if-not-fitting.false in
    let l = held a.ring.now a.cells.now in
    let t = c.cut_into.ensures in
    let b = c.fragments_bytes.ensures in (
      t ∙ added_all (room_of a.cells.now) a.maximum a.offset a.length l a.message e,
      ap Some b ∙ sym (ap (answer a.length a.maximum) e),
      ap bytes t ∙ added_bytes a.message a.maximum a.offset a.length l ∙ ap (λ (n : ℕ). bytes l + n) (sym b),
    )
