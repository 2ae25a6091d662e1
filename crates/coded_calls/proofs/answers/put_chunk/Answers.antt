-- Word by word, behind those of the message.
use Rattle.std.proofs.Common.{◌∷◌, ap, ◌∙◌}
use Rattle.std.proofs.lemmas.List.Edits.{sets}
use Rattle.cells.specs.Words.{bit_of}
use Rattle.coded_calls.specs.Words.{message_words}
use Rattle.coded_calls.proofs.answers.put_chunk.Goals as goal

pub returns : goal.returns
returns c =
    let a = c.args in
    let k = a.chunk in
    let there = c.bit.ensures.0 ∙ ap bit_of c.is_some.ensures in
    let when = c.unwrap_or.ensures in
    let b = c.bit-2 in
    let e = c.bit-3 in
    let d = c.bit-4 in
    let g = c.bit-5 in
    let t = c.bit-6 in (
      c.put_all.ensures.0 ∙ c.put_message.ensures.0,
      λ us.
          c.put_all.ensures.1 us
          ∙ c.put_message.ensures.1 (k.offset ∷ k.length ∷ k.nsent ∷ c.bit.result ∷ c.unwrap_or.result ∷ b.result ∷ e.result ∷ d.result ∷ g.result ∷ t.result ∷ us)
          ∙ (λ i. sets a.tape.now.words.now a.tape.now.at (message_words k.message (k.offset ∷ k.length ∷ k.nsent ∷ there i ∷ when i ∷ b.ensures.0 i ∷ e.ensures.0 i ∷ d.ensures.0 i ∷ g.ensures.0 i ∷ t.ensures.0 i ∷ us))),
    )
