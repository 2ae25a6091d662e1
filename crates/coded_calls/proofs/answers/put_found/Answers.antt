-- The five words, and the chunk behind them.
use Rattle.std.proofs.Common.{◌∙◌}
use Rattle.model.specs.Calls.{to_find}
use Rattle.model.specs.Answers.{Found}
use Rattle.coded_calls.specs.Words.{chunk_words, words}
use Rattle.coded_calls.specs.Worded.{worded}
use Rattle.coded_calls.proofs.answers.put_found.Goals as goal

pub returns-in-Some : goal.returns-in-Some
returns-in-Some c =
    let a = c.args in
    let t = a.tape.now in
    let p = c.put_all-in-Some in
    let q = c.put_chunk in
    (q.ensures.0 ∙ p.ensures.0, worded (λ (x : Found). words (to_find x)) t.words.now q.new.tape.words.now t.at q.new.tape.at c.in-Some.is (λ us. q.ensures.1 us ∙ p.ensures.1 (chunk_words c.in-Some.chunk us)))
