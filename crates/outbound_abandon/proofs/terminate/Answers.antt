-- Field by field.
use mathlib.Core.Path.{refl}
use Rattle.outbound_abandon.proofs.terminate.Goals as goal

pub returns : goal.returns
returns c = refl
