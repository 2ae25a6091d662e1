-- The two calls as the code makes them, of any state at all: lifetimes start at the ends of the rings alone, and none where every message
-- was seen. In a `Good` state each is the model's call.
use Rattle.std.specs.Prelude.{ℕ, ltb, Err}
use Rattle.limits.specs.Limits.{Room, clock_max}
use Rattle.model.specs.Lists.{when◌then◌else◌}
use Rattle.model.specs.State.{Sender, Out, same, at}
use Rattle.model.specs.Rings.{head_lane, sending}
use Rattle.outbound_queue.specs.Steps.{ends_started}
use Rattle.limits.specs.declared.Refusal.TheVariants.{BeyondLimit}
use Rattle.model.specs.Answers.{Done, Sent, did}

unfoldable pub lean_start : (now : ℕ) → Sender → Out Done
lean_start now s =
    when ltb clock_max now then same (Err BeyondLimit) s else
    record { after = ends_started now s; says = did }

unfoldable pub lean_send : Room → (now : ℕ) → Sender → Out Sent
lean_send room now s =
    when ltb clock_max now then same (Err BeyondLimit) s else
    let p = (ends_started now s).pending in sending (head_lane p) (at (head_lane p) p) room now s (ends_started now s)
