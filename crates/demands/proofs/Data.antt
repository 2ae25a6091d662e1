-- The tests of the call one after the other; then the header is sixteen bytes that the reader takes apart again, and the payload stands right behind.
use Prim.Native.Nat.{ℕ, ◌+◌, ◌-◌, ◌≤◌, ◌<◌}
use native.Mathlib.Omega.{arith}
use native.Mathlib.Decide.{dec_le}
use mathlib.Core.Path.{◌≡◌, refl, sym, ap, subst, ◌∙◌}
use mathlib.Core.Bool.{Bool, true}
use mathlib.Core.Option.{Option, none, some}
use mathlib.Core.List.{List, ◌++◌, append_assoc}
use lib.ListN.{length, take, drop, length-append, length-replicate}
use lib.Seq.{take_at, drop_at, drop-drop}
use borrow.Author.Tests.{le-leb, lt-ltb, le-ltb}
use Rattle.limits.specs.Limits.{payload_max}
use Rattle.octets.specs.Numbers.{short_at, long_at, zeros}
use Rattle.model.specs.declared.Chunk.{Chunk}
use Rattle.model.specs.Lists.{when◌then◌else◌}
use Rattle.model.specs.State.{Sender, in_flight, place}
use Rattle.model.specs.Messages.{flags}
use Rattle.model.specs.Flight.{outstanding}
use Rattle.model.specs.Data.{padding, payload_of, data_bytes, Output, unwritten, data_laid, data_of_entry, data_chunk, read_data, payload_in}
use Rattle.demands.specs.Numbers.{ChunkFits}
use Rattle.demands.specs.Requests.{served_from}
use Rattle.demands.specs.Data.{ToSend, data_size, payload_length, data_length, DataIsWritten, ReadsBack, WrittenReadsBack}
use Rattle.demands.proofs.Basic.{bool_case}
use Rattle.demands.proofs.Each.{each_get}
use Rattle.demands.proofs.Requests.{numbers_fit_served}
use Rattle.std.specs.Prelude.{Ok}
use Rattle.limits.specs.declared.Refusal.TheVariants.{NoEntry, PayloadOutside, OutputShort}
use Rattle.model.specs.Answers.{data_fields}

-- ---- when it is written

module _ (t : ℕ) (l out : List ℕ) (s : Sender) where
  -- without an entry to send
  none_to_send : (o : Option Chunk) → ((c : Chunk) → o ≡ some c → outstanding c ≡ true → ⊥) → data_of_entry o t l out ≡ unwritten NoEntry out
  none_to_send none h = refl
  none_to_send (some c) h =
      bool_case (λ b. (when b then data_laid t c l out else unwritten NoEntry out) ≡ unwritten NoEntry out) (outstanding c) (λ e. absurd (h c refl e)) (λ _. refl)

  -- with one
  of_one : (c : Chunk) → ToSend t s c → data_of_entry (in_flight t s.flight) t l out ≡ data_laid t c l out
  of_one c h =
      ap (λ (o : Option Chunk). data_of_entry o t l out) h.entry ∙ ap (λ (b : Bool). when b then data_laid t c l out else unwritten NoEntry out) h.outstanding

module _ (t : ℕ) (c : Chunk) (l out : List ℕ) where
  not_within : length l < c.offset + c.length → data_laid t c l out ≡ unwritten PayloadOutside out
  not_within h = rw (lt-ltb (length l) (c.offset + c.length) h)

  module _ (within : c.offset + c.length ≤ length l) where
    no_room : length out < data_size c → data_laid t c l out ≡ unwritten OutputShort out
    no_room h = rw (le-ltb (length l) (c.offset + c.length) within, lt-ltb (length out) (length (data_bytes t c l)) (omega (arith, data_length t c l within)))

    put : data_size c ≤ length out → data_laid t c l out ≡ record { answer = Ok (data_size c); out = data_bytes t c l ++ drop (data_size c) out }
    put h =
        let e : data_laid t c l out ≡ record { answer = Ok (length (data_bytes t c l)); out = data_bytes t c l ++ drop (length (data_bytes t c l)) out } =
        rw (le-ltb (length l) (c.offset + c.length) within, le-ltb (length out) (length (data_bytes t c l)) (omega (arith, data_length t c l within))) in
        e ∙ (λ i. record { answer = Ok (data_length t c l within i); out = data_bytes t c l ++ drop (data_length t c l within i) out })

pub data_is_written : DataIsWritten
unfolding data_chunk
data_is_written =
    record {
      no_entry = λ t l out s h. none_to_send t l out s (in_flight t s.flight) (λ c e b. h c (record { entry = e; outstanding = b }));
      outside = λ t l out s c h w. of_one t l out s c h ∙ not_within t c l out w;
      short = λ t l out s c h w r. of_one t l out s c h ∙ no_room t c l out w r;
      written = λ t l out s c h w r. of_one t l out s c h ∙ put t c l out w r;
    }

-- ---- what is written reads back, whatever stands behind it

module _ (t : ℕ) (c : Chunk) (l rest : List ℕ) (small : c.length ≤ payload_max) (within : c.offset + c.length ≤ length l) where
  abbrev p : List ℕ
  p = data_bytes t c l ++ rest

  sized : short_at 2 p ≡ 16 + c.length
  sized = omega arith

  long_enough : 16 + c.length ≤ length p
  long_enough = omega (arith, length-append (data_bytes t c l) rest, data_length t c l within)

  tsn : long_at 4 p ≡ t
  tsn = omega arith

  stream : short_at 8 p ≡ c.message.stream
  stream = omega arith

  ssn : short_at 10 p ≡ c.message.ssn
  ssn = omega arith

  protocol : long_at 12 p ≡ c.message.protocol
  protocol = omega arith

  held : short_at 2 p - 16 ≡ c.length
  held = omega (arith, sized)

  fields_back : read_data p ≡ data_fields t c.message.stream c.message.ssn (flags c) c.message.protocol c.length
  fields_back =
      rw (le-leb 16 (length p) (omega (arith, long_enough)), le-leb 16 (short_at 2 p) (omega (arith, sized)), le-leb (short_at 2 p) (length p) (omega (arith, sized, long_enough)))
      (λ i. data_fields (tsn i) (stream i) (ssn i) (flags c) (protocol i) (held i))

  -- behind the header
  payload_behind : drop 16 p ≡ payload_of c l ++ (zeros (padding c.length) ++ rest)
  payload_behind = append_assoc (payload_of c l) (zeros (padding c.length)) rest

  payload_back : payload_in p ≡ payload_of c l
  payload_back = (λ i. take (held i) (payload_behind i)) ∙ take_at (payload_of c l) (zeros (padding c.length) ++ rest) c.length (payload_length t c l within)

  padding_back : take (padding c.length) (drop (16 + c.length) p) ≡ zeros (padding c.length)
  padding_back =
      ap (take (padding c.length))
      (sym (drop-drop c.length 16 p) ∙ ap (drop c.length) payload_behind ∙ drop_at (payload_of c l) (zeros (padding c.length) ++ rest) c.length (payload_length t c l within))
      ∙ take_at (zeros (padding c.length)) rest (padding c.length) (length-replicate {A = ℕ} (padding c.length) 0)

  rest_back : drop (data_size c) p ≡ rest
  rest_back = drop_at (data_bytes t c l) rest (data_size c) (data_length t c l within)

back : (t : ℕ) (c : Chunk) (l out : List ℕ) → c.length ≤ payload_max → c.offset + c.length ≤ length l
    → ReadsBack t c l out (data_size c) (data_bytes t c l ++ drop (data_size c) out)
back t c l out small within =
    let rest = drop (data_size c) out in
    record {
      fields = fields_back t c l rest small within;
      payload = payload_back t c l rest small within;
      whole = payload_length t c l within;
      size = refl;
      padded = padding_back t c l rest small within;
      behind = rest_back t c l rest small within;
    }

-- ---- of an answer: it tells bytes only where they were written

module _ (t : ℕ) (l out : List ℕ) (n : ℕ) where
  -- of an entry
  abbrev Back : Chunk → Output → Type 0
  Back c o = ReadsBack t c l out n o.out

  one_back : (c : Chunk) → c.length ≤ payload_max → (data_laid t c l out).answer ≡ Ok n → Back c (data_laid t c l out)
  one_back c small e = go (dec_le (c.offset + c.length) (length l))
    where
      fits : (w : c.offset + c.length ≤ length l) → Dec (data_size c ≤ length out) → Back c (data_laid t c l out)
      fits w (yes r) =
          let q = put t c l out w r in
          let m : data_size c ≡ n = let z = sym (ap (λ (o : Output). o.answer) q) ∙ e in cc in
          subst (Back c) (sym q) (subst (λ (k : ℕ). ReadsBack t c l out k (data_bytes t c l ++ drop (data_size c) out)) m (back t c l out small w))
      fits w (no r) = let z = sym (ap (λ (o : Output). o.answer) (no_room t c l out w (omega arith))) ∙ e in let y : ◌≡◌ {A = ℕ} 0 1 = cc in absurd (omega arith)

      go : Dec (c.offset + c.length ≤ length l) → Back c (data_laid t c l out)
      go (yes w) = fits w (dec_le (data_size c) (length out))
      go (no w) = let z = sym (ap (λ (o : Output). o.answer) (not_within t c l out (omega arith))) ∙ e in let y : ◌≡◌ {A = ℕ} 0 1 = cc in absurd (omega arith)

  -- of what was looked for
  entry_back : (s : Sender) → ((c : Chunk) → in_flight t s.flight ≡ some c → c.length ≤ payload_max) → (data_of_entry (in_flight t s.flight) t l out).answer ≡ Ok n
      → (c : Chunk) × ToSend t s c × Back c (data_of_entry (in_flight t s.flight) t l out)
  entry_back s small e = go (in_flight t s.flight) refl e
    where
      go : (o : Option Chunk) → in_flight t s.flight ≡ o → (data_of_entry o t l out).answer ≡ Ok n → (c : Chunk) × ToSend t s c × Back c (data_of_entry (in_flight t s.flight) t l out)
      go none q a = let y : ◌≡◌ {A = ℕ} 0 1 = cc in absurd (omega arith)
      go (some c) q a =
          bool_case (λ b. outstanding c ≡ b → (when b then data_laid t c l out else unwritten NoEntry out).answer ≡ Ok n → (d : Chunk) × ToSend t s d × Back d (data_of_entry (in_flight t s.flight) t l out)) (outstanding c)
          (λ _ h a. let there : ToSend t s c = record { entry = q; outstanding = h } in (c, there, subst (Back c) (sym (of_one t l out s c there)) (one_back c (small c q) a)))
          (λ _ _ a. let y : ◌≡◌ {A = ℕ} 0 1 = cc in absurd (omega arith))
          refl a

pub written_reads_back : WrittenReadsBack
unfolding data_chunk
written_reads_back room first number h i rs ty t l out n e =
    let s = served_from room first number rs in
    let fits = numbers_fit_served room first number h i rs ty in
    entry_back t l out n s (λ c q. (each_get (ChunkFits room) s.flight.entries (place t s.flight) c q fits.flying).length) e
