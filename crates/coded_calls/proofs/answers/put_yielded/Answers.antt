-- The five words, and the chunk behind them.
use Rattle.std.proofs.Common.{◌∙◌}
use Rattle.coded_calls.specs.Words.{chunk_words}
use Rattle.coded_calls.proofs.answers.put_yielded.Goals as goal

pub returns : goal.returns
returns c = (c.put_chunk.ensures.0 ∙ c.put_all.ensures.0, λ us. c.put_chunk.ensures.1 us ∙ c.put_all.ensures.1 (chunk_words c.args.chunk us))
