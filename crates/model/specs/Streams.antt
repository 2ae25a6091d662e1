-- Opening a stream, its settings, and the buffered amount.
use Rattle.std.specs.Prelude.{ℕ, ◌-◌, Bool, not, ◌&&◌, List, [], ◌∷◌, ◌++◌, length, leb, ltb, eqb, ℤ, pos, negsuc, Ok, Err}
use Rattle.std.proofs.Math.Option.{Option, none, some}
use Rattle.limits.specs.Limits.{Room, payload_max}
use Rattle.model.specs.declared.Stream.{Stream}
use Rattle.model.specs.Lists.{when◌then◌else◌}
use Rattle.model.specs.Records.{new_stream}
pub use Rattle.model.specs.Records.{delivering, thresholds, accounted}
use Rattle.model.specs.State.{Sender, with_streams, Out, same}
use Rattle.limits.specs.declared.Refusal.TheVariants.{BadBounds, NotOpen, AlreadyOpen, StreamsFull}
use Rattle.model.specs.Answers.{Done, Released, Amount, Counted, did}

-- ---- the table of streams

abbrev pub find : (identifier : ℕ) → List Stream → Option Stream
find id [] = none
find id (t ∷ l) = when eqb t.identifier id then some t else find id l

-- the stream with t's identifier becomes t
abbrev pub put : Stream → List Stream → List Stream
put t [] = []
put t (x ∷ l) = when eqb x.identifier t.identifier then (t ∷ l) else (x ∷ put t l)

-- ---- open: 2, 4, 5

-- a new stream is ordered, Reliable, with value 0; its low threshold is 0, its high one 2 ^ 64 - 1
abbrev pub opened : (identifier maximum : ℕ) → Stream
opened id m = new_stream id m 18446744073709551615

abbrev pub open_new : Option Stream → Room → (identifier maximum : ℕ) → Sender → Out Done
open_new (some t) room id m s = same (Err AlreadyOpen) s
open_new none room id m s =
    when leb room.streams (length s.streams) then same (Err StreamsFull) s else
    record { after = with_streams (s.streams ++ (opened id m ∷ [])) s; says = did }

unfoldable pub open_stream : Room → (identifier maximum : ℕ) → Sender → Out Done
open_stream room id m s =
    when not (leb 1 m && leb m payload_max) then same (Err BadBounds) s else open_new (find id s.streams) room id m s

-- ---- reliability and the two thresholds: 3. Any values

-- an open stream is changed
abbrev pub changed : Option Stream → (Stream → Stream) → Sender → Out Done
changed none f s = same (Err NotOpen) s
changed (some t) f s = record { after = with_streams (put (f t) s.streams) s; says = did }

unfoldable pub set_reliability : (identifier : ℕ) → (unordered : Bool) → (kind value : ℕ) → Sender → Out Done
set_reliability id u k v s = changed (find id s.streams) (delivering u (record { kind = k; value = v })) s

unfoldable pub set_low : (identifier low : ℕ) → Sender → Out Done
set_low id l s = changed (find id s.streams) (λ t. thresholds l t.high t) s

unfoldable pub set_high : (identifier high : ℕ) → Sender → Out Done
set_high id h s = changed (find id s.streams) (λ t. thresholds t.low h t) s

-- ---- bytes are released: 3

-- zero or less: no change; more than the buffered amount: 0; otherwise subtract
abbrev pub reduced : ℤ → ℕ → ℕ
reduced (pos n) b = b - n
reduced (negsuc n) b = b

-- yes exactly when the amount was above the low threshold and now is not
abbrev pub releasing : Option Stream → ℤ → Sender → Out Released
releasing none r s = same (Err NotOpen) s
releasing (some t) r s =
    record {
      after = with_streams (put (accounted t.ssn (reduced r t.buffered) t.statistics t) s.streams) s;
      says = Ok (ltb t.low t.buffered && leb (reduced r t.buffered) t.low);
    }

unfoldable pub release : (identifier : ℕ) → ℤ → Sender → Out Released
release id r s = releasing (find id s.streams) r s

-- ---- what is asked of a stream: 3

abbrev pub amount : Option Stream → (Stream → ℕ) → Amount
amount none f = Err NotOpen
amount (some t) f = Ok (f t)

abbrev pub counts : Option Stream → Counted
counts none = Err NotOpen
counts (some t) = Ok t.statistics
