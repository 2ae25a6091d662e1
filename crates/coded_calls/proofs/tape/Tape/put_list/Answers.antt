-- One behind the other, and the rest is still to come.
use Rattle.std.proofs.Common.{List, ◌++◌, ℕ, sym, ap, ◌∙◌}
use Rattle.std.proofs.lemmas.List.{drop_all}
use Rattle.std.proofs.lemmas.List.Edits.{sets}
use Rattle.coded_calls.specs.Tapes.{put_more}
use Rattle.coded_calls.proofs.tape.Tape.put_list.Goals as goal

pub loop-number-preserved : goal.loop-number-preserved
loop-number-preserved c =
    let l = c.loop-number in
    let t = l.self in
    let p = c.put.new.self in
    (c.put.ensures.0 ∙ l.invariant.0, λ us. put_more t.words.now p.words.now t.at p.at l.number-index _ c.args.list.now c.loop-number-test.true c.from.ensures c.put.ensures.1 us ∙ l.invariant.1 us)

pub returns : goal.returns
returns c =
    let l = c.loop-number in
    let t = l.self in
    (l.invariant.0, λ us. ap (λ (left : List ℕ). sets t.words.now t.at (left ++ us)) (sym (drop_all l.number-index c.args.list.now c.loop-number-test.false)) ∙ l.invariant.1 us)
