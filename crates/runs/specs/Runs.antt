-- Lists of requests and of replies, as words.
use Rattle.std.specs.Prelude.{◌≡◌, List, [], ◌∷◌, ◌++◌, ℕ, zero, suc, ◌+◌, ◌*◌, ◌/◌, length}
use Rattle.std.proofs.lemmas.List.Edits.{sets}
use Rattle.limits.specs.Limits.{Room}
use Rattle.model.specs.State.{Sender}
use Rattle.model.specs.Requests.{Request, Reply, serve, replies}
use Rattle.rows.specs.Parts.{part}
use Rattle.sender_head.specs.declared.Head.{Head}
use Rattle.sender_head.specs.Whole.{room_in, sender_of, Counted}
use Rattle.coded_calls.specs.Coded.{request_of}
use Rattle.coded_calls.specs.Words.{reply_words}

-- n requests from the i-th on, eight words each; the bytes are those that their SACKs are parts of
abbrev pub requests_from : (n i : ℕ) → (words bytes : List ℕ) → List Request
requests_from zero i ws bytes = []
requests_from (suc n) i ws bytes = request_of (part (i * 8) (i * 8 + 8) ws) bytes ∷ requests_from n (suc i) ws bytes

-- all of them; up to seven words at the end are of no request
abbrev pub requests_in : (words bytes : List ℕ) → List Request
requests_in ws bytes = requests_from (length ws / 8) 0 ws bytes

-- the replies, one behind the other
abbrev pub all_words : List Reply → List ℕ
all_words [] = []
all_words (a ∷ rest) = reply_words a ++ all_words rest

-- behind a request: the state is the model's, and so is what was written on the tape `ws` from `at` on, which then is `vs`; `n` is the place
-- behind
pub record After (room : Room) (r : Request) (s t : Sender) (ws vs : List ℕ) (at n : ℕ) : Type 0 where
  pub state : t ≡ (serve room r s).after
  pub tape : (us : List ℕ) → sets vs n us ≡ sets ws at (reply_words (serve room r s).says ++ us)

-- the same of every head and every cells; and the counters stay sums
pub record Serves (r : Request) (h : Head) (cells : List ℕ) (h' : Head) (cells' : List ℕ) (ws vs : List ℕ) (at n : ℕ) : Type 0 where
  pub after : After (room_in cells) r (sender_of h cells) (sender_of h' cells') ws vs at n
  pub counted : Counted h cells → Counted h' cells'

-- behind a list of requests, as the contract of `run` has it: all replies of the model stand on the tape from its start on, as far as it goes
abbrev pub Taped : (room : Room) → List Request → Sender → (before after : List ℕ) → Type 0
Taped room rs s before after = after ≡ sets before 0 (all_words (replies room rs s))
