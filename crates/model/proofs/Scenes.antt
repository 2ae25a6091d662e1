-- Every scene goes as written: the definitions compute it.
use mathlib.Core.Path.{refl}
use Rattle.model.specs.Streams.{open_stream, set_reliability}
use Rattle.model.specs.Messages.{write}
use Rattle.model.specs.Rings.{send, expire_pending, expire_pending_tail, abandon, expired_inflight}
use Rattle.model.specs.Flight.{acknowledge, pop}
use Rattle.model.specs.Sacks.{sack}
use Rattle.model.specs.Data.{data_chunk}
use Rattle.model.specs.Scenes.{Scenes}

pub scenes : Scenes
unfolding open_stream set_reliability write send expire_pending expire_pending_tail abandon expired_inflight acknowledge pop sack data_chunk
scenes = record { cut_off = refl; wholly_sent = refl; full_flight = refl; expiry = refl; tail = refl; acknowledged_in_gaps = refl; data_of_two = refl; no_data = refl }
