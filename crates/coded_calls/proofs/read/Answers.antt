-- By the row, of the words that were read.
use Rattle.std.proofs.Common.{ℕ, ◌<◌, subst, ◌∙◌, arith}
use Rattle.coded_calls.specs.Picked.{all_words_lem, is_plain}
use Rattle.coded_calls.proofs.read.Goals as goal

pub returns-in-0-to-29 : goal.returns-in-0-to-29
returns-in-0-to-29 c =
    let h = c.word-row.ensures in
    (is_plain c.args.words.now (subst (λ (k : ℕ). k < 30) h (omega arith)) (c.plain.ensures ∙ all_words_lem h c.word-a.ensures c.word-b.ensures c.word.ensures c.word-in-0-to-29.ensures), tt)
