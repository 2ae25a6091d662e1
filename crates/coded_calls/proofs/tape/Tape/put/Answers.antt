-- Behind the end nothing is written, and the place stays.
use Rattle.std.proofs.Common.{refl}
use Rattle.coded_calls.specs.Tapes.{put_past}
use Rattle.coded_calls.proofs.tape.Tape.put.Goals as goal

pub returns-else-self : goal.returns-else-self
returns-else-self c = let t = c.args.self.now in (refl, put_past t.words.now t.at c.args.word c.if-self.false)
