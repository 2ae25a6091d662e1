-- By the call: its row is computed, and an argument that fits is the same modulo what it can be. A SACK is the part of the bytes that its words name.
use mathlib.Core.Path.{◌≡◌, refl, sym, ap, ◌∙◌}
use mathlib.Core.Bool.{Bool, true, false}
use mathlib.Core.List.{List, ◌++◌}
use Prim.Native.Nat.{ℕ, ◌+◌, ◌%◌, ◌<◌, ◌≤◌, ◌^◌, min}
use native.Mathlib.Omega.{arith}
use native.Mathlib.Nat.{mod-eq_of_lt}
use lib.ListN.{length, take, length-append}
use lib.Seq.{take_at, drop_at}
use lib.Dec.{eqb}
use lib.IntN.{ℤ, pos, negsuc}
use borrow.Author.Tests.{le-leb}
use Rattle.model.specs.Calls.{
  Query,
  Get,
  IsAbandoned,
  PeekPending,
  NextMessage,
  NextTsn,
  PendingLength,
  PendingBytes,
  InflightLength,
  InflightBytes,
  EarliestOutstanding,
  PendingContainsStream,
  ContainsStream,
  BufferedAmount,
  LowThreshold,
  HighThreshold,
  Statistics,
  ExpiredInflight,
  Call,
  Open,
  SetReliability,
  SetLow,
  SetHigh,
  Write,
  Release,
  StartLifetimes,
  Send,
  ExpirePending,
  ExpirePendingTail,
  Abandon,
  Acknowledge,
  Pop,
  MarkAll,
  Ask,
}
use Rattle.model.specs.Requests.{Single, ReadSack}
use Rattle.cells.specs.Words.{bit_of}
use Rattle.coded_calls.specs.Coded.{call_in, packet_in}
use Rattle.coded_calls.specs.Picked.{is_call}
use Rattle.coded_calls.specs.Onto.{ReleaseFits, QueryFits, CallFits, eight, release_words, query_words, call_words, HasWords, RequestsHaveWords}

flag : (b : Bool) → eqb (bit_of b % 2) 1 ≡ b
flag true = refl
flag false = refl

zero_fits : 0 < 2 ^ 64
zero_fits = omega arith

flag_fits : (b : Bool) → bit_of b < 2 ^ 64
flag_fits true = omega arith
flag_fits false = zero_fits

-- eight words of which five are of the row
words_of_lem : {from : ℕ} {k : Call} (row a b c d : ℕ) → call_in row a b c d ≡ k → row < 31 → a < 2 ^ 64 → b < 2 ^ 64 → c < 2 ^ 64 → d < 2 ^ 64
    → HasWords from (Single k) (eight row a b c d)
words_of_lem row a b c d e r p q s t =
    let f : row < 2 ^ 64 = omega (arith, r) in
    record { request = λ before behind l. sym (is_call row a b c d (λ x. omega (arith, r, x)) (sym e) (before ++ behind)); eight = refl; fit = (f, (p, (q, (s, (t, (zero_fits, (zero_fits, (zero_fits, tt)))))))) }

-- a row with one argument, and one with none
words_of_one : {from : ℕ} {k : Call} (row a : ℕ) → call_in row a 0 0 0 ≡ k → row < 31 → a < 2 ^ 64 → HasWords from (Single k) (eight row a 0 0 0)
words_of_one row a e r p = words_of_lem row a 0 0 0 e r p zero_fits zero_fits zero_fits

release_has_words : {from : ℕ} (id : ℕ) (r : ℤ) → id < 2 ^ 16 → ReleaseFits r → HasWords from (Single (Release id r)) (release_words id r)
release_has_words id (pos n) h p =
    words_of_lem 5 id n 0 0 (λ i. Release (mod-eq_of_lt h i) (pos (mod-eq_of_lt p i))) (omega arith) (omega (arith, h)) (omega (arith, p)) zero_fits zero_fits
release_has_words id (negsuc n) h p =
    words_of_lem 5 id n 1 0 (λ i. Release (mod-eq_of_lt h i) (negsuc (mod-eq_of_lt p i))) (omega arith) (omega (arith, h)) (omega (arith, p)) (omega arith) zero_fits

query_has_words : {from : ℕ} (q : Query) → QueryFits q → HasWords from (Single (Ask q)) (query_words q)
query_has_words (Get t) h = words_of_one 14 t (λ i. Ask (Get (mod-eq_of_lt h i))) (omega arith) (omega (arith, h))
query_has_words (IsAbandoned t) h = words_of_one 15 t (λ i. Ask (IsAbandoned (mod-eq_of_lt h i))) (omega arith) (omega (arith, h))
query_has_words PeekPending h = words_of_one 16 0 refl (omega arith) zero_fits
query_has_words NextMessage h = words_of_one 17 0 refl (omega arith) zero_fits
query_has_words NextTsn h = words_of_one 18 0 refl (omega arith) zero_fits
query_has_words PendingLength h = words_of_one 19 0 refl (omega arith) zero_fits
query_has_words PendingBytes h = words_of_one 20 0 refl (omega arith) zero_fits
query_has_words InflightLength h = words_of_one 21 0 refl (omega arith) zero_fits
query_has_words InflightBytes h = words_of_one 22 0 refl (omega arith) zero_fits
query_has_words EarliestOutstanding h = words_of_one 23 0 refl (omega arith) zero_fits
query_has_words (PendingContainsStream id) h = words_of_one 24 id (λ i. Ask (PendingContainsStream (mod-eq_of_lt h i))) (omega arith) (omega (arith, h))
query_has_words (ContainsStream id) h = words_of_one 25 id (λ i. Ask (ContainsStream (mod-eq_of_lt h i))) (omega arith) (omega (arith, h))
query_has_words (BufferedAmount id) h = words_of_one 26 id (λ i. Ask (BufferedAmount (mod-eq_of_lt h i))) (omega arith) (omega (arith, h))
query_has_words (LowThreshold id) h = words_of_one 27 id (λ i. Ask (LowThreshold (mod-eq_of_lt h i))) (omega arith) (omega (arith, h))
query_has_words (HighThreshold id) h = words_of_one 28 id (λ i. Ask (HighThreshold (mod-eq_of_lt h i))) (omega arith) (omega (arith, h))
query_has_words (Statistics id) h = words_of_one 29 id (λ i. Ask (Statistics (mod-eq_of_lt h i))) (omega arith) (omega (arith, h))
query_has_words (ExpiredInflight now n) h =
    let l = h.1 in
    let e : min n 256 ≡ n = omega (arith, l) in
    words_of_lem 30 now n 0 0 (λ i. Ask (ExpiredInflight now (e i))) (omega arith) h.0 (omega (arith, l)) zero_fits zero_fits

calls_have_words : {from : ℕ} (k : Call) → CallFits k → HasWords from (Single k) (call_words k)
calls_have_words (Open id m) h =
    words_of_lem 0 id m 0 0 (λ i. Open (mod-eq_of_lt h.0 i) (mod-eq_of_lt h.1 i)) (omega arith) (omega (arith, h.0)) (omega (arith, h.1)) zero_fits zero_fits
calls_have_words (SetReliability id u k v) h =
    words_of_lem 1 id (bit_of u) k v (λ i. SetReliability (mod-eq_of_lt h.0 i) (flag u i) (mod-eq_of_lt h.1 i) (mod-eq_of_lt h.2 i)) (omega arith) (omega (arith, h.0))
    (flag_fits u) (omega (arith, h.1)) (omega (arith, h.2))
calls_have_words (SetLow id x) h = words_of_lem 2 id x 0 0 (λ i. SetLow (mod-eq_of_lt h.0 i) x) (omega arith) (omega (arith, h.0)) h.1 zero_fits zero_fits
calls_have_words (SetHigh id x) h = words_of_lem 3 id x 0 0 (λ i. SetHigh (mod-eq_of_lt h.0 i) x) (omega arith) (omega (arith, h.0)) h.1 zero_fits zero_fits
calls_have_words (Write id p o l) h =
    words_of_lem 4 id p o l (λ i. Write (mod-eq_of_lt h.0 i) (mod-eq_of_lt h.1 i) o l) (omega arith) (omega (arith, h.0)) (omega (arith, h.1)) h.2 h.3
calls_have_words (Release id r) h = release_has_words id r h.0 h.1
calls_have_words (StartLifetimes now) h = words_of_one 6 now refl (omega arith) h
calls_have_words (Send now) h = words_of_one 7 now refl (omega arith) h
calls_have_words (ExpirePending now) h = words_of_one 8 now refl (omega arith) h
calls_have_words (ExpirePendingTail now) h = words_of_one 9 now refl (omega arith) h
calls_have_words (Abandon t) h = words_of_one 10 t (λ i. Abandon (mod-eq_of_lt h i)) (omega arith) (omega (arith, h))
calls_have_words (Acknowledge t) h = words_of_one 11 t (λ i. Acknowledge (mod-eq_of_lt h i)) (omega arith) (omega (arith, h))
calls_have_words (Pop t) h = words_of_one 12 t (λ i. Pop (mod-eq_of_lt h i)) (omega arith) (omega (arith, h))
calls_have_words MarkAll h = words_of_one 13 0 refl (omega arith) zero_fits
calls_have_words (Ask q) h = query_has_words q h

-- a part of the bytes is what stands there
packet_in_lem : (from : ℕ) (p before behind : List ℕ) → length before ≡ from → packet_in from (length p) (before ++ (p ++ behind)) ≡ p
packet_in_lem from p before behind e =
    let l = length-append before (p ++ behind) in
    let m = length-append p behind in
    let h : from + length p ≤ length (before ++ (p ++ behind)) = omega (arith, e, l, m) in
    rw (le-leb (from + length p) (length (before ++ (p ++ behind))) h) (ap (take (length p)) (drop_at before (p ++ behind) from e) ∙ take_at p behind (length p) refl)

pub requests_have_words : RequestsHaveWords
requests_have_words from (Single k) f h = calls_have_words k f
requests_have_words from (ReadSack p) f h =
    let a : from < 2 ^ 64 = omega (arith, h) in
    let b : length p < 2 ^ 64 = omega (arith, h) in
    let r : 31 < 2 ^ 64 = omega arith in
    record {
      request = λ before behind e. ap ReadSack (packet_in_lem from p before behind e);
      eight = refl;
      fit = (r, (a, (b, (zero_fits, (zero_fits, (zero_fits, (zero_fits, (zero_fits, tt))))))));
    }
