-- What makes `Demand3` of the state that a run leaves a theorem on the code: the sentences on further calls speak of what a longer list of
-- coded requests writes on the tape.
use Rattle.std.specs.Prelude.{◌≡◌, List, [], ◌∷◌, ◌++◌, map}
use Rattle.limits.specs.Limits.{Room}
use Rattle.model.specs.declared.Chunk.{Chunk}
use Rattle.model.specs.State.{Sender}
use Rattle.model.specs.Calls.{Call, run, answers, yielded, yields_of}
use Rattle.model.specs.Requests.{Request, Single, Reply, answered, sacked, served, replies, all_singles}

-- any calls are requests: the state that they leave is that of the calls, and the replies are their answers
pub record CallsAreRequests : Type 0 where
  pub state : (room : Room) (ks : List Call) (s : Sender) → served room (map Single ks) s ≡ run room ks s
  pub told : (room : Room) (ks : List Call) (s : Sender) → replies room (map Single ks) s ≡ map answered (answers room ks s)

-- the replies to further requests stand behind those to the first, and are those of the state that the first have left
abbrev pub FurtherRequests : Type 0
FurtherRequests = (room : Room) (rs qs : List Request) (s : Sender) → replies room (rs ++ qs) s ≡ replies room rs s ++ replies room qs (served room rs s)

-- the chunks that a reply holds; a SACK yields none
abbrev pub yielded_in : Reply → List Chunk
yielded_in (answered a) = yielded a
yielded_in (sacked a) = []

abbrev pub chunks_of : List Reply → List Chunk
chunks_of [] = []
chunks_of (r ∷ rest) = yielded_in r ++ chunks_of rest

-- the chunks that the single calls of requests yield are those of the replies
abbrev pub YieldsAreTold : Type 0
YieldsAreTold = (room : Room) (rs : List Request) (s : Sender) → yields_of room (all_singles room rs s) s ≡ chunks_of (replies room rs s)
