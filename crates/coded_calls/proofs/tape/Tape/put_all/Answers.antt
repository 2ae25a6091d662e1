-- One behind the other, and the rest is still to come.
use Rattle.std.proofs.Common.{List, ◌++◌, ℕ, refl, sym, ap, ◌∙◌}
use Rattle.std.proofs.lemmas.List.{drop_all}
use Rattle.std.proofs.lemmas.List.Edits.{sets}
use Rattle.coded_calls.specs.Tapes.{put_more}
use Rattle.coded_calls.proofs.tape.Tape.put_all.Goals as goal

pub loop-word-preserved : goal.loop-word-preserved
loop-word-preserved c =
    let l = c.loop-word in
    let t = l.self in
    let p = c.put.new.self in
    (c.put.ensures.0 ∙ l.invariant.0, λ us. put_more t.words.now p.words.now t.at p.at l.word-index _ c.args.words.now c.loop-word-test.true refl c.put.ensures.1 us ∙ l.invariant.1 us)

pub returns : goal.returns
returns c =
    let l = c.loop-word in
    let t = l.self in
    (l.invariant.0, λ us. ap (λ (left : List ℕ). sets t.words.now t.at (left ++ us)) (sym (drop_all l.word-index c.args.words.now c.loop-word-test.false)) ∙ l.invariant.1 us)
