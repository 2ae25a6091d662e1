-- 01's rules in small scenes that the checker computes: the calls, and what they answer. A sender with room for two streams, messages of
-- 12 bytes, four chunks in a ring and four entries in flight; stream 1 is ordered, stream 2 unordered and Timed with a lifetime of 5.
use Rattle.std.specs.Prelude.{ℕ, Bool, true, false, ◌≡◌, List, [], ◌∷◌, ◌++◌, replicate, Some, None, Ok, Err}
use Rattle.limits.specs.Limits.{Room}
use Rattle.limits.specs.Refusals.{refusal_number}
use Rattle.model.specs.declared.Chunk.{Chunk}
use Rattle.model.specs.State.{Sender, fresh}
use Rattle.model.specs.Messages.{flags}
use Rattle.model.specs.Calls.{
  Call,
  Open,
  SetReliability,
  Write,
  Send,
  ExpirePending,
  ExpirePendingTail,
  Abandon,
  Acknowledge,
  Pop,
  Ask,
  ExpiredInflight,
  Answer,
  to_do,
  to_write,
  to_release,
  to_send,
  to_expire,
  to_expire_tail,
  to_abandon,
  to_find,
  to_seek,
  to_measure,
  to_count,
  to_list,
  number,
  yes_no,
  step,
  run,
}
use Rattle.model.specs.Lists.{when◌then◌else◌}
use Rattle.model.specs.Sacks.{sack}
use Rattle.model.specs.Data.{data_chunk}
use Rattle.model.specs.Answers.{Sent, Expired, TailExpired, Abandoned, Sacked, Laid}

abbrev pub small : Room
small = record { streams = 2; message = 12; ring = 4; flight = 4 }

-- both streams open, with at most 3 bytes in a chunk
abbrev pub opening : List Call
opening = Open 1 3 ∷ Open 2 3 ∷ SetReliability 2 true 2 5 ∷ SetReliability 1 false 2 5 ∷ []

-- a chunk in a row: stream, SSN, flags octet, bytes held
abbrev pub chunk_row : Chunk → List ℕ
chunk_row c = c.message.stream ∷ c.message.ssn ∷ flags c ∷ c.length ∷ []

abbrev pub bit : Bool → ℕ
bit b = when b then 1 else 0

-- an answer in a row: of a send 1, the TSN and the chunk; of a removal what it names; 0 for nothing; 99 and its number for a refusal
abbrev pub sent_row : Sent → List ℕ
sent_row (Ok (Some (t, c))) = 1 ∷ t ∷ chunk_row c
sent_row (Ok None) = 0 ∷ []
sent_row (Err r) = 99 ∷ refusal_number r ∷ []

abbrev pub expired_row : Expired → List ℕ
expired_row (Ok (Some x)) = x.stream ∷ bit x.unordered ∷ x.bytes ∷ []
expired_row (Ok None) = 0 ∷ []
expired_row (Err r) = 99 ∷ refusal_number r ∷ []

abbrev pub tail_row : TailExpired → List ℕ
tail_row (Ok (Some x)) = x.stream ∷ x.number ∷ x.bytes ∷ []
tail_row (Ok None) = 0 ∷ []
tail_row (Err r) = 99 ∷ refusal_number r ∷ []

abbrev pub abandoned_row : Abandoned → List ℕ
abandoned_row (Some x) = x.stream ∷ x.bytes ∷ []
abandoned_row None = 0 ∷ []

abbrev pub row : Answer → List ℕ
row (to_do a) = []
row (to_write a) = []
row (to_release a) = []
row (to_send a) = sent_row a
row (to_expire a) = expired_row a
row (to_expire_tail a) = tail_row a
row (to_abandon a) = abandoned_row a
row (to_find (Some c)) = chunk_row c
row (to_find None) = 0 ∷ []
row (to_seek a) = []
row (to_measure a) = []
row (to_count a) = []
row (to_list (Ok l)) = l
row (to_list (Err r)) = 99 ∷ refusal_number r ∷ []
row (number x) = x ∷ []
row (yes_no b) = bit b ∷ []

-- a call and what it should answer
pub record Said : Type 0 where
  pub call : Call
  pub row : List ℕ

-- the same calls with what the model answers, from a state on
abbrev pub played : List Said → Sender → List Said
played [] s = []
played (x ∷ l) s = record { call = x.call; row = row (step small x.call s).says } ∷ played l (step small x.call s).after

infix 1 ◌gives◌
abbrev pub ◌gives◌ : Call → List ℕ → Said
k gives l = record { call = k; row = l }

-- Eleven bytes on stream 1 are four chunks of 3, 3, 3 and 2. Two are sent; an unordered message written then waits for the rest; abandoned,
-- the message releases all it held and files ONE terminator with the next TSN, which fills the flight; a pop later the unordered one goes.
abbrev pub cut_off : List Said
cut_off =
    (Write 1 53 100 11 gives [])
    ∷ (Send 0 gives 1 ∷ 7 ∷ 1 ∷ 0 ∷ 2 ∷ 3 ∷ [])
    ∷ (Write 2 53 0 2 gives [])
    ∷ (Send 0 gives 1 ∷ 8 ∷ 1 ∷ 0 ∷ 0 ∷ 3 ∷ [])
    ∷ (Abandon 7 gives 1 ∷ 11 ∷ [])
    ∷ (Send 0 gives 99 ∷ 10 ∷ [])
    ∷ (Pop 8 gives 0 ∷ [])
    ∷ (Pop 7 gives 1 ∷ 0 ∷ 2 ∷ 0 ∷ [])
    ∷ (Send 0 gives 1 ∷ 10 ∷ 2 ∷ 0 ∷ 7 ∷ 2 ∷ [])
    ∷ (Pop 8 gives 1 ∷ 0 ∷ 0 ∷ 0 ∷ [])
    ∷ (Send 0 gives 0 ∷ [])
    ∷ (Abandon 9 gives 1 ∷ 0 ∷ [])
    ∷ (Abandon 8 gives 0 ∷ [])
    ∷ []

-- A message that is wholly sent needs no terminator: the next TSN is the next chunk's.
abbrev pub wholly_sent : List Said
wholly_sent =
    (Write 1 53 0 4 gives [])
    ∷ (Write 1 53 0 1 gives [])
    ∷ (Send 0 gives 1 ∷ 7 ∷ 1 ∷ 0 ∷ 2 ∷ 3 ∷ [])
    ∷ (Send 0 gives 1 ∷ 8 ∷ 1 ∷ 0 ∷ 1 ∷ 1 ∷ [])
    ∷ (Acknowledge 7 gives 3 ∷ [])
    ∷ (Acknowledge 7 gives 0 ∷ [])
    ∷ (Abandon 7 gives 1 ∷ 1 ∷ [])
    ∷ (Send 0 gives 1 ∷ 9 ∷ 1 ∷ 1 ∷ 3 ∷ 1 ∷ [])
    ∷ []

-- The last entry of the flight is kept for a terminator: with three entries a send is refused, and one pop lets it through.
abbrev pub full_flight : List Said
full_flight =
    (Write 1 53 0 12 gives [])
    ∷ (Send 0 gives 1 ∷ 7 ∷ 1 ∷ 0 ∷ 2 ∷ 3 ∷ [])
    ∷ (Send 0 gives 1 ∷ 8 ∷ 1 ∷ 0 ∷ 0 ∷ 3 ∷ [])
    ∷ (Send 0 gives 1 ∷ 9 ∷ 1 ∷ 0 ∷ 0 ∷ 3 ∷ [])
    ∷ (Send 0 gives 99 ∷ 10 ∷ [])
    ∷ (Pop 7 gives 1 ∷ 0 ∷ 2 ∷ 3 ∷ [])
    ∷ (Send 0 gives 1 ∷ 10 ∷ 1 ∷ 0 ∷ 1 ∷ 3 ∷ [])
    ∷ []

-- A wholly unsent ordered message expires at its deadline, not before, and the SSNs behind it close up, the stream's next one too.
abbrev pub expiry : List Said
expiry =
    (Write 1 53 0 4 gives [])
    ∷ (Write 1 53 0 1 gives [])
    ∷ (ExpirePending 50 gives 0 ∷ [])
    ∷ (Write 2 53 0 1 gives [])
    ∷ (Send 10 gives 1 ∷ 7 ∷ 2 ∷ 0 ∷ 7 ∷ 1 ∷ [])
    ∷ (ExpirePending 14 gives 0 ∷ [])
    ∷ (ExpirePending 15 gives 1 ∷ 0 ∷ 4 ∷ [])
    ∷ (Write 1 50 0 1 gives [])
    ∷ (Send 15 gives 1 ∷ 8 ∷ 1 ∷ 0 ∷ 3 ∷ 1 ∷ [])
    ∷ (Send 15 gives 1 ∷ 9 ∷ 1 ∷ 1 ∷ 3 ∷ 1 ∷ [])
    ∷ []

-- The rest of a message under way expires: it is abandoned, with its terminator. The expired list names entries at their deadline that are
-- not acknowledged, or whose message is still pending, and none that is abandoned.
abbrev pub tail : List Said
tail =
    (Write 1 53 0 9 gives [])
    ∷ (Send 10 gives 1 ∷ 7 ∷ 1 ∷ 0 ∷ 2 ∷ 3 ∷ [])
    ∷ (ExpirePendingTail 14 gives 0 ∷ [])
    ∷ (Acknowledge 7 gives 3 ∷ [])
    ∷ (Ask (ExpiredInflight 14 1) gives [])
    ∷ (Ask (ExpiredInflight 15 1) gives 7 ∷ [])
    ∷ (Ask (ExpiredInflight 15 0) gives 99 ∷ 11 ∷ [])
    ∷ (ExpirePendingTail 15 gives 1 ∷ 0 ∷ 6 ∷ [])
    ∷ (Ask (ExpiredInflight 15 1) gives [])
    ∷ (Send 15 gives 0 ∷ [])
    ∷ []

-- ---- SACKs

-- a SACK's bytes: how many they are, the four of the cumulative TSN, how many blocks there are, and these
abbrev pub bytes_of_sack : (length : ℕ) → (cumulative : List ℕ) → (count : ℕ) → (blocks : List ℕ) → List ℕ
bytes_of_sack n t k l = 3 ∷ 0 ∷ 0 ∷ n ∷ (t ++ 0 ∷ 0 ∷ 0 ∷ 0 ∷ 0 ∷ k ∷ 0 ∷ 0 ∷ l)

-- 1 and the bytes released; 0 for a stale one; 99 and its number for a refusal
abbrev pub sacked_row : Sacked → List ℕ
sacked_row (Ok (Some b)) = 1 ∷ b ∷ []
sacked_row (Ok None) = 0 ∷ []
sacked_row (Err r) = 99 ∷ refusal_number r ∷ []

-- a packet and what it should answer
pub record Read : Type 0 where
  pub packet : List ℕ
  pub row : List ℕ

-- the same packets with what the model answers, from a state on
abbrev pub reading : List Read → Sender → List Read
reading [] s = []
reading (x ∷ l) s =
    record { packet = x.packet; row = sacked_row (sack small x.packet s).says } ∷ reading l (sack small x.packet s).after

infix 1 ◌answers◌
abbrev pub ◌answers◌ : List ℕ → List ℕ → Read
p answers l = record { packet = p; row = l }

-- Three chunks of 3 bytes are in flight, whose TSNs pass 2 ^ 32: 4294967294, 4294967295 and 0. A byte too few is no SACK; one whose cumulative
-- TSN is two before the oldest is stale, bad block or not; a block may not start at 0 nor reach beyond the newest; of two blocks that overlap
-- each entry is released once, and not again by the next SACK, which pops all; then every SACK is stale.
abbrev pub acknowledged_in_gaps : List Read
acknowledged_in_gaps =
    (3 ∷ 0 ∷ 0 ∷ 16 ∷ 255 ∷ 255 ∷ 255 ∷ 253 ∷ 0 ∷ 0 ∷ 0 ∷ 0 ∷ 0 ∷ 0 ∷ 0 ∷ [] answers 99 ∷ 13 ∷ [])
    ∷ (bytes_of_sack 20 (255 ∷ 255 ∷ 255 ∷ 252 ∷ []) 1 (0 ∷ 0 ∷ 0 ∷ 1 ∷ []) answers 0 ∷ [])
    ∷ (bytes_of_sack 20 (255 ∷ 255 ∷ 255 ∷ 253 ∷ []) 1 (0 ∷ 0 ∷ 0 ∷ 1 ∷ []) answers 99 ∷ 14 ∷ [])
    ∷ (bytes_of_sack 20 (255 ∷ 255 ∷ 255 ∷ 254 ∷ []) 1 (0 ∷ 2 ∷ 0 ∷ 3 ∷ []) answers 99 ∷ 14 ∷ [])
    ∷ (bytes_of_sack 24 (255 ∷ 255 ∷ 255 ∷ 253 ∷ []) 2 (0 ∷ 2 ∷ 0 ∷ 3 ∷ 0 ∷ 3 ∷ 0 ∷ 3 ∷ []) answers 1 ∷ 6 ∷ [])
    ∷ (bytes_of_sack 16 (0 ∷ 0 ∷ 0 ∷ 0 ∷ []) 0 [] answers 1 ∷ 3 ∷ [])
    ∷ (bytes_of_sack 16 (0 ∷ 0 ∷ 0 ∷ 0 ∷ []) 0 [] answers 0 ∷ [])
    ∷ []

-- ---- DATA chunks

-- a TSN, the bytes and the output that are lent, and what should come of it: 1 and how many bytes, or 99 and its number for a refusal; the output
pub record Wrote : Type 0 where
  pub tsn : ℕ
  pub bytes : List ℕ
  pub out : List ℕ
  pub row : List ℕ
  pub after : List ℕ

abbrev pub laid_row : Laid → List ℕ
laid_row (Ok n) = 1 ∷ n ∷ []
laid_row (Err r) = 99 ∷ refusal_number r ∷ []

-- the same with what the model answers and leaves
abbrev pub writing : List Wrote → Sender → List Wrote
writing [] s = []
writing (x ∷ l) s =
    let o = data_chunk x.tsn x.bytes x.out s in
    record { tsn = x.tsn; bytes = x.bytes; out = x.out; row = laid_row o.answer; after = o.out } ∷ writing l s

-- so many nines
abbrev pub nines : ℕ → List ℕ
nines n = replicate n 9

-- Four bytes from the third on are two chunks, of 3 bytes and of 1, with the TSNs 4294967295 and 0; the first is written with one zero behind its
-- payload, and the byte behind that stays; the second with three. Its payload is not within five bytes, and its chunk not within 19.
abbrev pub data_of_two : List Wrote
data_of_two =
    record { tsn = 4294967295; bytes = 10 ∷ 11 ∷ 12 ∷ 13 ∷ 14 ∷ 15 ∷ []; out = nines 21; row = 1 ∷ 20 ∷ []; after = 0 ∷ 2 ∷ 0 ∷ 19 ∷ 255 ∷ 255 ∷ 255 ∷ 255 ∷ 0 ∷ 1 ∷ 0 ∷ 0 ∷ 0 ∷ 0 ∷ 0 ∷ 53 ∷ 12 ∷ 13 ∷ 14 ∷ 0 ∷ 9 ∷ [] }
    ∷ record { tsn = 0; bytes = 10 ∷ 11 ∷ 12 ∷ 13 ∷ 14 ∷ 15 ∷ []; out = nines 20; row = 1 ∷ 20 ∷ []; after = 0 ∷ 1 ∷ 0 ∷ 17 ∷ 0 ∷ 0 ∷ 0 ∷ 0 ∷ 0 ∷ 1 ∷ 0 ∷ 0 ∷ 0 ∷ 0 ∷ 0 ∷ 53 ∷ 15 ∷ 0 ∷ 0 ∷ 0 ∷ [] }
    ∷ record { tsn = 0; bytes = 10 ∷ 11 ∷ 12 ∷ 13 ∷ 14 ∷ []; out = nines 19; row = 99 ∷ 16 ∷ []; after = nines 19 }
    ∷ record { tsn = 0; bytes = 10 ∷ 11 ∷ 12 ∷ 13 ∷ 14 ∷ 15 ∷ []; out = nines 19; row = 99 ∷ 17 ∷ []; after = nines 19 }
    ∷ []

-- A terminator, what is acknowledged and what was never sent have no chunk to write; that is told before anything else.
abbrev pub no_data : List Wrote
no_data =
    record { tsn = 4294967294; bytes = []; out = nines 1; row = 99 ∷ 15 ∷ []; after = nines 1 }
    ∷ record { tsn = 4294967295; bytes = []; out = nines 1; row = 99 ∷ 15 ∷ []; after = nines 1 }
    ∷ record { tsn = 1; bytes = []; out = nines 1; row = 99 ∷ 15 ∷ []; after = nines 1 }
    ∷ []

-- ---- the claim

-- from the opened sender on, with first TSN 7 and first message number 0, a scene goes as written
abbrev pub Goes : List Said → Type 0
Goes l = played l (run small opening (fresh 7 0)) ≡ l

-- three chunks of stream 1 are in flight, the first with the TSN before the last
abbrev pub three_sent : Sender
three_sent = run small (Write 1 53 0 9 ∷ Send 0 ∷ Send 0 ∷ Send 0 ∷ []) (run small opening (fresh 4294967294 0))

-- a terminator is in flight, and behind it a message of two chunks
abbrev pub two_to_send : Sender
two_to_send =
    run small (Write 2 53 0 4 ∷ Send 0 ∷ Abandon 4294967293 ∷ Pop 4294967293 ∷ Write 1 53 2 4 ∷ Send 0 ∷ Send 0 ∷ []) (run small opening (fresh 4294967293 0))

-- Every scene does.
pub record Scenes : Type 0 where
  pub cut_off : Goes cut_off
  pub wholly_sent : Goes wholly_sent
  pub full_flight : Goes full_flight
  pub expiry : Goes expiry
  pub tail : Goes tail
  pub acknowledged_in_gaps : reading acknowledged_in_gaps three_sent ≡ acknowledged_in_gaps
  pub data_of_two : writing data_of_two two_to_send ≡ data_of_two
  pub no_data : writing no_data (run small (Acknowledge 4294967295 ∷ []) two_to_send) ≡ no_data
