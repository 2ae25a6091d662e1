-- What `pair` and the word of the small fields ensure gives the chunk back (`chunk_back`).
use Rattle.chunk_slot.specs.Chunks.{chunk_back}
use Rattle.chunk_slot.specs.Meaning.{chunk_for}
use Rattle.chunk_slot.proofs.pack.Goals as goal

pub returns : goal.returns
unfolding chunk_for
returns c =
    let a = c.args in
    let due = c.unwrap_or in
    let sent = c.unwrap_or-2 in
    let types = c.pair-types in
    let sizes = c.pair-sizes in
    let timed = c.is_some in
    let flown = c.is_some-2 in
    let pending = c.flags-pending in
    let flying = c.flags-flying in
    chunk_back a.chunk (record { due = due.ensures; sent = sent.ensures; types = types.ensures; sizes = sizes.ensures; timed = timed.ensures; flown = flown.ensures; pending = pending.ensures.0; flying = flying.ensures.0; marks = c.marks_of-marks.ensures })
