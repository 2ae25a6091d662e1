-- What is asked of one stream: the stream itself comes first, and each answer is read from it.
use Rattle.std.specs.Prelude.{Result, Ok, Err}
use Rattle.std.proofs.Math.Option.{Option, none, some}
use Rattle.limits.specs.declared.Refusal.{Refusal}
use Rattle.limits.specs.declared.Refusal.TheVariants.{NotOpen}
use Rattle.model.specs.declared.Stream.{Stream}

-- the open stream, or the refusal
abbrev pub open_or_not : Option Stream → Result Stream Refusal
open_or_not none = Err NotOpen
open_or_not (some t) = Ok t
