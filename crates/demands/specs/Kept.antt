-- Nothing is lost and nothing comes twice; and abandoned is final.
use Rattle.std.specs.Prelude.{ℕ, ◌<◌, ◌≡◌, true, false, List, [], ◌++◌, map}
use Rattle.std.proofs.Math.Option.{some}
use Rattle.limits.specs.Limits.{Room}
use Rattle.model.specs.declared.Chunk.{Chunk}
use Rattle.model.specs.declared.Stream.{Stream}
use Rattle.model.specs.Lists.{keep, last}
use Rattle.model.specs.State.{Sender, fresh, is_of}
use Rattle.model.specs.Streams.{find}
use Rattle.model.specs.Messages.{pieces, fragments, write}
use Rattle.model.specs.Rings.{pending_of}
use Rattle.model.specs.Calls.{Call, step, run, yields_of}
use Rattle.demands.specs.Words.{as_cut, cut_of, Each, abandons, Unabandoned, Unexpired, was_accepted, files_of}

-- For a message that s accepts, under any calls that neither expire nor abandon it: what has been yielded of it, followed by what is
-- pending of it, is, fragment for fragment, what it was cut into at its write.
abbrev pub NothingLostFrom : Room → Sender → Type 0
NothingLostFrom room s =
    (id p o l : ℕ) (t : Stream) → find id s.streams ≡ some t → was_accepted (write room id p o l s).says ≡ true → 0 < pieces l t.maximum →
    let n = s.numbers.next in
    let s' = (write room id p o l s).after in
    (js : List Call) → Unexpired room n js s' → Unabandoned room n js s'
    → cut_of n (yields_of room js s') ++ cut_of n (pending_of n (run room js s').pending) ≡ map as_cut (fragments p n o l t)

abbrev pub NothingLost : Type 0
NothingLost = (room : Room) (firstTsn firstMessage : ℕ) (ks : List Call) → NothingLostFrom room (run room ks (fresh firstTsn firstMessage))

-- an entry of an abandoned message
pub record GivenUp (c : Chunk) : Type 0 where
  pub abandoned : c.abandoned ≡ true
  pub empty : c.length ≡ 0
  pub resting : c.retransmit ≡ false

-- what holds of a message n that was abandoned, s being the state behind that and js the calls since
pub record Final (room : Room) (n : ℕ) (js : List Call) (s : Sender) : Type 0 where
  -- nothing of it is pending
  pub gone : pending_of n (run room js s).pending ≡ []
  -- all its entries are abandoned, hold nothing and are not to retransmit
  pub given_up : Each GivenUp (keep (is_of n) (run room js s).flight.entries)
  -- no call yields or files anything of it
  pub silent : keep (is_of n) (yields_of room js s) ≡ []
  pub closed : keep (is_of n) (files_of room js s) ≡ []
  -- the last of its entries in flight is an ending one: its own last fragment, or the terminator that took the place of its tail
  pub ends : (c : Chunk) → last (keep (is_of n) (run room js s).flight.entries) ≡ some c → c.ending ≡ true

abbrev pub AbandonedIsFinal : Type 0
AbandonedIsFinal = (room : Room) (firstTsn firstMessage : ℕ) (ks : List Call) →
    let s = run room ks (fresh firstTsn firstMessage) in
    (k : Call) (n : ℕ) → abandons k s ≡ some n → (js : List Call) → Final room n js (step room k s).after
