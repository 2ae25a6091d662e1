-- Field by field.
use mathlib.Core.Path.{refl}
use Rattle.stream_table.specs.Streams.{stream_of}
use Rattle.stream_table.proofs.slot.unpacked.Goals as goal

pub returns : goal.returns
unfolding stream_of
returns c = refl
