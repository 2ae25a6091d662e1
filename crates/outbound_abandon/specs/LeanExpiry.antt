-- The two expiries as the code makes them, of any state at all: a message's leading run goes for all of its chunks. In a `Good` state each is
-- the model's call.
use Rattle.std.proofs.Math.Option.{Option, none, some}
use Rattle.std.specs.Prelude.{Some, List, ℕ, length, ltb, None, Ok, Err}
use Rattle.limits.specs.Limits.{Room, clock_max}
use Rattle.model.specs.declared.Chunk.{Chunk}
use Rattle.model.specs.declared.Stream.{Stream}
use Rattle.model.specs.Lists.{when◌then◌else◌}
use Rattle.model.specs.State.{Sender, Out, same, with_pending}
use Rattle.model.specs.Streams.{find}
use Rattle.model.specs.Told.{told_expired}
use Rattle.model.specs.Rings.{head, drop_ssn, compacted, bytes, expires, tail_expires, expire_pending}
use Rattle.rows.specs.Spared.{Spares}
use Rattle.pending_queue.specs.Runs.{runs, without_runs}
use Rattle.outbound_queue.specs.declared.OutboundQueue.{OutboundQueue}
use Rattle.outbound_queue.specs.Outbound.{sender_of, Counted, Does}
use Rattle.outbound_abandon.specs.Lean.{leanly_abandoned, leanly_held}
use Rattle.limits.specs.declared.Refusal.TheVariants.{BeyondLimit}
use Rattle.model.specs.Answers.{Expired, TailExpired, expired_message, expired_rest}

-- ---- a wholly unsent message expires

abbrev pub leanly_expiring : Option Chunk → (now : ℕ) → Sender → Out Expired
leanly_expiring none now s = same (Ok None) s
leanly_expiring (some c) now s =
    let x = c.message in
    when expires now c then
    record {
      after = compacted x.unordered x.stream (with_pending (without_runs x.number s.pending) s);
      says = expired_message x.stream x.unordered (bytes (runs x.number s.pending));
    }
    else same (Ok None) s

unfoldable pub lean_expire : (now : ℕ) → Sender → Out Expired
lean_expire now s = when ltb clock_max now then same (Err BeyondLimit) s else leanly_expiring (head s.pending) now s

-- what the answer means for the streams: behind an ordered message the next SSN of its stream drops
abbrev pub dropped : Expired → List Stream → List Stream
dropped (Ok (Some x)) ts = when x.unordered then ts else drop_ssn (find x.stream ts) ts
dropped (Ok None) ts = ts
dropped (Err n) ts = ts

-- of any state what the code does, and of those that calls reach the model's call, whatever the streams are: the caller drops that SSN
abbrev pub ExpiresHead : (now : ℕ) → OutboundQueue → List ℕ → OutboundQueue → List ℕ → Expired → Type 0
ExpiresHead now q ws q' ws' answer =
    ((room : Room) (ts : List Stream) → Does room (sender_of ts q ws) (record { after = sender_of (dropped answer ts) q' ws'; says = answer }) (lean_expire now (sender_of ts q ws)) (expire_pending now (sender_of ts q ws)))
    × (Counted q ws → Counted q' ws')

-- and a refusal leaves the queue and every word
abbrev pub ExpiresHeadOrStays : (now : ℕ) → OutboundQueue → List ℕ → OutboundQueue → List ℕ → Expired → Type 0
ExpiresHeadOrStays now q ws q' ws' answer = ExpiresHead now q ws q' ws' answer × Spares (told_expired answer).number q ws q' ws'

-- ---- the rest of a message that was sent in part expires: its entries are the newest

abbrev pub leanly_tail_expiring : Option Chunk → Room → (now : ℕ) → Sender → Out TailExpired
leanly_tail_expiring none room now s = same (Ok None) s
leanly_tail_expiring (some c) room now s =
    let x = c.message in
    let i = length s.flight.entries in
    when tail_expires now c then
    record { after = leanly_abandoned room x.number i s; says = expired_rest x.stream x.number (leanly_held x.number i s) }
    else same (Ok None) s

unfoldable pub lean_expire_tail : Room → (now : ℕ) → Sender → Out TailExpired
lean_expire_tail room now s =
    when ltb clock_max now then same (Err BeyondLimit) s else leanly_tail_expiring (head s.pending) room now s
