-- What reading a SACK does. An accepted one is a list of single calls: the covered prefix is acknowledged and popped, then the blocks are
-- acknowledged.
use Rattle.std.specs.Prelude.{ℕ, zero, suc, ◌+◌, ◌-◌, ◌%◌, Bool, ◌||◌, List, [], ◌∷◌, ◌++◌, map, length, leb, ltb, Some, None, Ok, Err}
use Rattle.limits.specs.Limits.{Room, tsns}
use Rattle.model.specs.declared.Block.{Block}
use Rattle.model.specs.Lists.{when◌then◌else◌, total}
use Rattle.model.specs.State.{Sender, Flight, Out, same}
use Rattle.model.specs.Sack.{cumulative_of, is_sack, blocks_in, all_within}
use Rattle.model.specs.Calls.{
  Call,
  Acknowledge,
  Pop,
  Answer,
  to_do,
  to_write,
  to_release,
  to_send,
  to_expire,
  to_expire_tail,
  to_abandon,
  to_find,
  to_seek,
  to_measure,
  to_count,
  to_list,
  number,
  yes_no,
  run,
  answers,
}
use Rattle.limits.specs.declared.Refusal.TheVariants.{BadSack, BadBlock}
use Rattle.model.specs.Answers.{Sacked}

-- ---- which entries

-- how many entries a cumulative TSN covers: none, if it is the one before the oldest; more than there are, if it is not from there to the newest
abbrev pub covered : (cumulative : ℕ) → Flight → ℕ
covered t f = (t + 1 + tsns - f.oldest) % tsns

abbrev pub is_stale : (cumulative : ℕ) → Flight → Bool
is_stale t f = leb (length f.entries) 0 || ltb (length f.entries) (covered t f)

-- n TSNs from t on
abbrev pub tsns_from : (n t : ℕ) → List ℕ
tsns_from zero t = []
tsns_from (suc n) t = t ∷ tsns_from n ((t + 1) % tsns)

-- ---- the single calls

abbrev pub acknowledged_and_popped : List ℕ → List Call
acknowledged_and_popped [] = []
acknowledged_and_popped (t ∷ l) = Acknowledge t ∷ Pop t ∷ acknowledged_and_popped l

abbrev pub block_calls : (cumulative : ℕ) → List Block → List Call
block_calls t [] = []
block_calls t (b ∷ l) = map Acknowledge (tsns_from (b.end + 1 - b.start) ((t + b.start) % tsns)) ++ block_calls t l

abbrev pub sack_calls : (cumulative : ℕ) → List Block → Flight → List Call
sack_calls t l f = acknowledged_and_popped (tsns_from (covered t f) f.oldest) ++ block_calls t l

-- the bytes that an acknowledgement answers
abbrev pub bytes_in : Answer → ℕ
bytes_in (to_do a) = 0
bytes_in (to_write a) = 0
bytes_in (to_release a) = 0
bytes_in (to_send a) = 0
bytes_in (to_expire a) = 0
bytes_in (to_expire_tail a) = 0
bytes_in (to_abandon a) = 0
bytes_in (to_find a) = 0
bytes_in (to_seek a) = 0
bytes_in (to_measure a) = 0
bytes_in (to_count a) = 0
bytes_in (to_list a) = 0
bytes_in (number n) = n
bytes_in (yes_no b) = 0

-- ---- read a SACK: 13; stale; 14

abbrev pub sacking : Room → (cumulative : ℕ) → List Block → Sender → Out Sacked
sacking room t l s =
    when is_stale t s.flight then same (Ok None) s else
    when all_within (length s.flight.entries - covered t s.flight) l then
    record { after = run room (sack_calls t l s.flight) s; says = Ok (Some (total bytes_in (answers room (sack_calls t l s.flight) s))) }
    else same (Err BadBlock) s

unfoldable pub sack : Room → (packet : List ℕ) → Sender → Out Sacked
sack room p s = when is_sack p then sacking room (cumulative_of p) (blocks_in p) s else same (Err BadSack) s
