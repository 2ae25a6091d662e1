-- What a host asks of the sender: a single call, or to read a SACK, which is a list of single calls in the state that it meets.
use Rattle.std.specs.Prelude.{ℕ, ◌-◌, List, [], ◌∷◌, ◌++◌, length}
use Rattle.limits.specs.Limits.{Room}
use Rattle.model.specs.declared.Block.{Block}
use Rattle.model.specs.Lists.{when◌then◌else◌}
use Rattle.model.specs.State.{Sender, Out}
use Rattle.model.specs.Calls.{Call, Answer, told, step}
use Rattle.model.specs.Sack.{cumulative_of, is_sack, blocks_in, all_within}
use Rattle.model.specs.Sacks.{covered, is_stale, sack_calls, sack}
use Rattle.model.specs.Answers.{Sacked}

pub data Request : Type 0 where
  Single : Call → Request
  ReadSack : (packet : List ℕ) → Request

pub data Reply : Type 0 where
  answered : Answer → Reply
  sacked : Sacked → Reply

-- one request
abbrev pub serve : Room → Request → Sender → Out Reply
serve room (Single k) s = told answered (step room k s)
serve room (ReadSack p) s = told sacked (sack room p s)

-- any requests, one after the other
abbrev pub served : Room → List Request → Sender → Sender
served room [] s = s
served room (r ∷ rs) s = served room rs (serve room r s).after

abbrev pub replies : Room → List Request → Sender → List Reply
replies room [] s = []
replies room (r ∷ rs) s = (serve room r s).says ∷ replies room rs (serve room r s).after

-- ---- the single calls that a request is, in the state that it meets: none for a SACK that is stale or refused

abbrev pub sack_singles : (cumulative : ℕ) → List Block → Sender → List Call
sack_singles t l s =
    when is_stale t s.flight then [] else when all_within (length s.flight.entries - covered t s.flight) l then sack_calls t l s.flight else []

abbrev pub singles : Request → Sender → List Call
singles (Single k) s = k ∷ []
singles (ReadSack p) s = when is_sack p then sack_singles (cumulative_of p) (blocks_in p) s else []

-- those of all requests, each in the state that the ones before leave
abbrev pub all_singles : Room → List Request → Sender → List Call
all_singles room [] s = []
all_singles room (r ∷ rs) s = singles r s ++ all_singles room rs (serve room r s).after
