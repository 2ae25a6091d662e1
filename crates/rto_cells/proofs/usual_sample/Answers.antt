-- `usual_sample` is right since a usual state's measurement is a later one, and the next rttvar is in the range of `usual_spread`. Assumes nothing.
use Rattle.rto.proofs.Scaled.{after_usual}
use Rattle.rto.proofs.Usual.{usual_state}
use Rattle.rto_cells.proofs.usual_sample.Goals as goal

pub usual_spread-requires : goal.usual_spread-requires
usual_spread-requires c =
    let m = c.args.manager.now in
    let u = usual_state m c.requires.fact_1 in
    rw c.usual_rttvar-rttvar.ensures (after_usual m.rttvar m.srtt c.args.rtt u.usual u.near c.requires.fact_2)
