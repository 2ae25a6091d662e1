-- The TSNs in the front of the list go on the tape, behind their count.
use Rattle.std.proofs.Common.{◌++◌, length, take, sym, ap, ◌∙◌}
use Rattle.std.specs.Prelude.{Ok}
use Rattle.model.specs.Answers.{Listed}
use Rattle.model.specs.Rings.{expired_inflight}
use Rattle.sender_head.specs.Whole.{sender_of}
use Rattle.runs.specs.Listings.{lent, listed_on}
use Rattle.runs.proofs.list_into.Goals as goal

pub returns-in-Ok : goal.returns-in-Ok
returns-in-Ok c =
    let a = c.args in
    let m = c.expired_inflight in
    let list = m.new.out in
    let n = c.in-Ok.n in
    let t = a.tape.now in
    let q = c.put_list in
    λ kept good. (q.ensures.0 ∙ c.put_all-in-Ok.ensures.0, listed_on (Ok n) list a.list.now (expired_inflight a.clock (length a.list.now) (sender_of a.h.now a.cells.now)) t.words.now q.new.self.words.now t.at q.new.self.at (ap (λ (y : Listed). lent y list) (sym c.in-Ok.is) ∙ m.ensures.0.1 kept good) (λ us. q.ensures.1 us ∙ c.put_all-in-Ok.ensures.1 (take n list ++ us)))
