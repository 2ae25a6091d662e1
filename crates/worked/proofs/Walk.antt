-- The walk prints 01's lines, and its calls answer as 01 says.
use mathlib.Core.Path.{refl}
use Rattle.model.specs.Streams.{open_stream, set_reliability}
use Rattle.model.specs.Messages.{write}
use Rattle.model.specs.Rings.{send, abandon}
use Rattle.worked.specs.Walk.{Walk}

pub walk : Walk
unfolding open_stream set_reliability write send abandon
walk = record { prints = refl; hears = refl }
