-- The number's last byte is put, and the others are what is left.
use Rattle.std.proofs.Common.{◌∙◌, arith}
use Rattle.answers.specs.Arrays.{put_more}
use Rattle.answers.proofs.arrays.put.Goals as goal

pub loop-i-preserved : goal.loop-i-preserved
loop-i-preserved g c = let l = c.loop-i in
    put_more l.bytes c.args.from l.i l.rest (omega arith) c.put_byte.ensures ∙ l.invariant
