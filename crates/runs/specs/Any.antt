-- Any list of requests: there are words and bytes of which it is the list, and the tape of their run tells its replies.
use Rattle.std.specs.Prelude.{◌≡◌, List, [], ◌∷◌, ◌++◌, ℕ, zero, suc, ◌+◌, ◌*◌, ◌%◌, ◌^◌, ◌≤◌, ◌<◌, length, drop}
use Rattle.limits.specs.Limits.{Room}
use Rattle.model.specs.State.{Sender}
use Rattle.model.specs.Requests.{Request, Reply, replies}
use Rattle.demands.specs.Words.{Each}
use Rattle.coded_calls.specs.Onto.{Fit, RequestFits, bytes_of, words_of}
use Rattle.coded_calls.specs.Back.{read_back}
use Rattle.runs.specs.Runs.{requests_in, all_words, Taped}

-- ---- the words and the bytes of a list of requests

-- the requests of words that are joined are the joined requests, where the first words are of whole requests
abbrev pub RequestsJoin : Type 0
RequestsJoin = (ws vs bytes : List ℕ) → length ws % 8 ≡ 0 → requests_in (ws ++ vs) bytes ≡ requests_in ws bytes ++ requests_in vs bytes

-- the bytes of the SACKs, one behind the other
abbrev pub bytes_of_all : List Request → List ℕ
bytes_of_all [] = []
bytes_of_all (r ∷ rs) = bytes_of r ++ bytes_of_all rs

-- the words of each request, one behind the other; the bytes stand from so many on
abbrev pub words_of_all : (from : ℕ) → List Request → List ℕ
words_of_all from [] = []
words_of_all from (r ∷ rs) = words_of from r ++ words_of_all (from + length (bytes_of r)) rs

-- these are the words and the bytes of that list
pub record ListHasWords (rs : List Request) (ws bytes : List ℕ) : Type 0 where
  pub requests : requests_in ws bytes ≡ rs
  pub eights : length ws ≡ length rs * 8
  pub fit : Fit 64 ws
  pub octets : Fit 8 bytes

-- every list of requests whose arguments fit their types, and whose bytes can all be lent, is that of some words and bytes
abbrev pub EveryListHasWords : Type 0
EveryListHasWords = (rs : List Request) → Each RequestFits rs → length (bytes_of_all rs) < 2 ^ 64 → ListHasWords rs (words_of_all 0 rs) (bytes_of_all rs)

-- ---- the replies on a tape

-- replies, and the words behind them
pub record Reads : Type 0 where
  pub replies : List Reply
  pub rest : List ℕ

-- the two together
abbrev pub reads : List Reply → List ℕ → Reads
reads xs ws = record { replies = xs; rest = ws }

-- so many replies, one behind the other
abbrev pub read_all : ℕ → List ℕ → Reads
read_all zero ws = reads [] ws
read_all (suc n) ws = reads ((read_back ws).reply ∷ (read_all n (read_back ws).rest).replies) (read_all n (read_back ws).rest).rest

-- a tape tells all its replies, whatever comes behind
abbrev pub TapeTells : Type 0
TapeTells = (xs : List Reply) (us : List ℕ) → read_all (length xs) (all_words xs ++ us) ≡ reads xs us

-- a tape is as long as all the words of the replies
abbrev pub HasRoom : (room : Room) → List Request → Sender → (tape : List ℕ) → Type 0
HasRoom room rs s tape = length (all_words (replies room rs s)) ≤ length tape

-- then a reply to each request is read from the tape that `run` leaves, they are the model's, and behind them it is as it was
abbrev pub RunTells : Type 0
RunTells = (room : Room) (rs : List Request) (s : Sender) (before after : List ℕ) → Taped room rs s before after → HasRoom room rs s before
    → read_all (length rs) after ≡ reads (replies room rs s) (drop (length (all_words (replies room rs s))) before)

-- so for any list of requests whose arguments fit there are words and bytes whose run leaves a tape that tells the model's replies to those
-- requests
abbrev pub AnyListIsTold : Type 0
AnyListIsTold = (room : Room) (rs : List Request) (s : Sender) (before after : List ℕ) → Each RequestFits rs → length (bytes_of_all rs) < 2 ^ 64
    → Taped room (requests_in (words_of_all 0 rs) (bytes_of_all rs)) s before after → HasRoom room rs s before
    → (read_all (length rs) after).replies ≡ replies room rs s
