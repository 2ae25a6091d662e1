-- One byte more, and at the end all.
use Rattle.std.proofs.Common.{◌∙◌, arith}
use Rattle.answers.specs.Arrays.{byte_for, fill_more, fill_all}
use Rattle.answers.proofs.arrays.fill.Goals as goal

pub loop-i-preserved : goal.loop-i-preserved
loop-i-preserved g c = fill_more (byte_for c.args.ruled c.args.seed) c.args.bytes.now c.loop-i.i (omega arith) c.loop-i.invariant c.byte_for.ensures

pub returns : goal.returns
returns g c = c.loop-i.invariant ∙ fill_all (byte_for c.args.ruled c.args.seed) c.args.bytes.now c.loop-i.i (omega arith)
