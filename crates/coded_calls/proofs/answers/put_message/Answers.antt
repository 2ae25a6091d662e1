-- Word by word.
use Rattle.std.proofs.Common.{◌∷◌, ap, ◌∙◌}
use Rattle.std.proofs.lemmas.List.Edits.{sets}
use Rattle.cells.specs.Words.{bit_of}
use Rattle.coded_calls.proofs.answers.put_message.Goals as goal

pub returns : goal.returns
returns c =
    let a = c.args in
    let m = a.message in
    let flag = c.bit.ensures.0 in
    let there = c.bit-2.ensures.0 ∙ ap bit_of c.is_some.ensures in
    let when = c.unwrap_or.ensures in (
      c.put_all.ensures.0,
      λ us.
          c.put_all.ensures.1 us
          ∙ (λ i. sets a.tape.now.words.now a.tape.now.at (m.stream ∷ m.ssn ∷ flag i ∷ m.protocol ∷ m.number ∷ m.reliability.kind ∷ m.reliability.value ∷ there i ∷ when i ∷ 0 ∷ us)),
    )
