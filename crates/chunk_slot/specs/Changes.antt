-- A chunk when some words of its slot are written: the words say what the model's changes of a chunk do.
use Rattle.std.specs.Prelude.{◌≡◌, Bool, not, ◌&&◌, ℕ, ◌+◌, ◌-◌, ◌*◌, ◌/◌, ◌%◌, ◌≤◌, ◌<◌, length, set, leb, eqb, Some}
use Rattle.std.proofs.Math.Path.{refl, sym, ap}
use Rattle.std.proofs.Common.{◌∙◌, add-zero, arith, le-leb, eq-eqb, ne_eqb}
use Rattle.std.proofs.Math.Bool.{true, false}
use mathlib.Core.List.{List}
use Rattle.std.proofs.Math.ListN.{get_or}
use Rattle.model.specs.declared.Chunk.{Chunk}
use Rattle.model.specs.Lists.{when◌then◌else◌, adjust}
use Rattle.model.specs.State.{is_of}
use Rattle.model.specs.Rings.{with_message, renewed, has_lifetime, started, ssn_before, lowered, marked, given_up}
use Rattle.model.specs.Flight.{acknowledged, to_retransmit}
use Rattle.rows.specs.Adjusts.{adjust_set, adjust_out}
use Rattle.cells.specs.Slots.{room_of, words_of, slots_past, slots_get, word_at, length_words, eight, Wrote, wrote_none, wrote_more}
use Rattle.cells.specs.Words.{low_of, high_of}
use Rattle.chunk_slot.specs.Marks.{Marks, marks_in}
use Rattle.chunk_slot.specs.Remarks.{sent_again, left_off, mark_acked, one_lower, with_deadline}
use Rattle.chunk_slot.specs.Chunks.{chunk_from, chunk_in, chunks, blank_chunk, chunk_past, chunk_at}

-- ---- what the model's changes come to

-- the bytes that a chunk holds of a message
abbrev pub held_of : (number : ℕ) → Chunk → ℕ
held_of n c = when is_of n c then c.length else 0

-- where a chunk is of another message or stream, or has no lifetime to start, it stays
pub held_other : (n : ℕ) (c : Chunk) → eqb c.message.number n ≡ false → held_of n c ≡ 0
held_other n c e = ap (λ (b : Bool). when b then c.length else 0) e

pub held_own : (n : ℕ) (c : Chunk) → eqb c.message.number n ≡ true → held_of n c ≡ c.length
held_own n c e = ap (λ (b : Bool). when b then c.length else 0) e

pub given_other : (n : ℕ) (c : Chunk) → eqb c.message.number n ≡ false → given_up n c ≡ c
given_other n c e = ap (λ (b : Bool). when b then marked 0 c.acked true false c else c) e

pub lowered_other : (id : ℕ) (c : Chunk) → eqb c.message.stream id ≡ false → lowered id c ≡ c
lowered_other id c e =
    ap (λ (b : Bool). when b then with_message (renewed (ssn_before c.message.ssn) c.message.deadline c.message) c else c) e

pub started_not : (time k : ℕ) (c : Chunk) → (leb k c.message.number && has_lifetime c.message) ≡ false → started time k c ≡ c
started_not time k c e =
    ap (λ (b : Bool). with_message (when b then renewed c.message.ssn (Some (time + c.message.reliability.value)) c.message else c.message) c) e

-- and where it has one
lifetime : (k number kind protocol : ℕ) → k ≤ number → kind ≡ 2 → (protocol ≡ 50 → ⊥) → (leb k number && (eqb kind 2 && not (eqb protocol 50))) ≡ true
lifetime k number kind protocol a b t =
    ap (λ (x : Bool). x && (eqb kind 2 && not (eqb protocol 50))) (le-leb k number a)
    ∙ ap (λ (x : Bool). x && not (eqb protocol 50)) (eq-eqb kind 2 b)
    ∙ ap not (ne_eqb protocol 50 t)

-- eight words of which some are others
module _ (w : List ℕ) (h : length w ≡ 8) where
  -- the chunk of a deadline, sizes and marks among these words
  abbrev among : (deadline length nsent : ℕ) → Marks → Chunk
  among d l s x = chunk_from (get_or w 0 0) d (get_or w 2 0) (get_or w 3 0) (low_of (get_or w 4 0)) (high_of (get_or w 4 0)) l s x

  mark_in : (m : ℕ) → marks_in m ≡ sent_again (marks_in (get_or w 6 0)) → chunk_in (set w 6 m) ≡ to_retransmit (chunk_in w)
  unfolding chunk_from
  mark_in m e =
      ap (λ (r : List ℕ). chunk_in (set r 6 m)) (eight w h) ∙ ap (among (get_or w 1 0) (low_of (get_or w 5 0)) (high_of (get_or w 5 0))) e

  -- the length's half goes
  empty_in : (m : ℕ) → chunk_in (set (set w 5 (get_or w 5 0 - low_of (get_or w 5 0))) 6 m) ≡ among (get_or w 1 0) 0 (high_of (get_or w 5 0)) (marks_in m)
  empty_in m =
      let z = get_or w 5 0 in
      let low : low_of (z - low_of z) ≡ 0 = omega arith in
      let high : high_of (z - low_of z) ≡ high_of z = omega arith in
      ap (λ (r : List ℕ). chunk_in (set (set r 5 (z - low_of z)) 6 m)) (eight w h)
      ∙ ap (λ (l : ℕ). among (get_or w 1 0) l (high_of (z - low_of z)) (marks_in m)) low
      ∙ ap (λ (s : ℕ). among (get_or w 1 0) 0 s (marks_in m)) high

  ack_in : (m : ℕ) → marks_in m ≡ mark_acked (marks_in (get_or w 6 0)) → chunk_in (set (set w 5 (get_or w 5 0 - low_of (get_or w 5 0))) 6 m) ≡ acknowledged (chunk_in w)
  unfolding chunk_from
  ack_in m e = empty_in m ∙ ap (among (get_or w 1 0) 0 (high_of (get_or w 5 0))) e

  give_in : (n m : ℕ) → get_or w 0 0 ≡ n → marks_in m ≡ left_off (marks_in (get_or w 6 0))
      → chunk_in (set (set w 5 (get_or w 5 0 - low_of (get_or w 5 0))) 6 m) ≡ given_up n (chunk_in w)
  unfolding chunk_from
  give_in n m q e =
      empty_in m
      ∙ ap (among (get_or w 1 0) 0 (high_of (get_or w 5 0))) e
      ∙ sym (ap (λ (b : Bool). when b then marked 0 (chunk_in w).acked true false (chunk_in w) else chunk_in w) (eq-eqb (get_or w 0 0) n q))

  lower_in : (id m : ℕ) → (marks_in (get_or w 6 0)).stream ≡ id → marks_in m ≡ one_lower (marks_in (get_or w 6 0)) → chunk_in (set w 6 m) ≡ lowered id (chunk_in w)
  unfolding chunk_from
  lower_in id m q e =
      let c = chunk_in w in
      ap (λ (r : List ℕ). chunk_in (set r 6 m)) (eight w h)
      ∙ ap (among (get_or w 1 0) (low_of (get_or w 5 0)) (high_of (get_or w 5 0))) e
      ∙ sym (ap (λ (b : Bool). when b then with_message (renewed (ssn_before c.message.ssn) c.message.deadline c.message) c else c) (eq-eqb (marks_in (get_or w 6 0)).stream id q))

  start_in : (time k m : ℕ) → (leb k (get_or w 0 0) && has_lifetime (chunk_in w).message) ≡ true → marks_in m ≡ with_deadline (marks_in (get_or w 6 0))
      → chunk_in (set (set w 1 (time + high_of (get_or w 4 0))) 6 m) ≡ started time k (chunk_in w)
  unfolding chunk_from
  start_in time k m q e =
      let c = chunk_in w in
      ap (λ (r : List ℕ). chunk_in (set (set r 1 (time + high_of (get_or w 4 0))) 6 m)) (eight w h)
      ∙ ap (among (time + high_of (get_or w 4 0)) (low_of (get_or w 5 0)) (high_of (get_or w 5 0))) e
      ∙ sym (ap (λ (b : Bool). with_message (when b then renewed c.message.ssn (Some (time + c.message.reliability.value)) c.message else c.message) c) q)

-- ---- a slot that is not there

pub adjust_past : (f : Chunk → Chunk) (i : ℕ) (ws : List ℕ) → room_of ws ≤ i → chunks ws ≡ adjust f i (chunks ws)
adjust_past f i ws h = sym (adjust_out f i (chunks ws) blank_chunk (slots_past chunk_in i ws h))

pub held_past : (n i : ℕ) (ws : List ℕ) → room_of ws ≤ i → 0 ≡ held_of n (get_or (chunks ws) i blank_chunk)
held_past n i ws h = sym (ap (held_of n) (chunk_past i ws h) ∙ none (eqb 0 n))
  where
    none : (b : Bool) → ◌≡◌ {A = ℕ} (when b then 0 else 0) 0
    none true = refl
    none false = refl

-- ---- slot i of some words

module _ (i : ℕ) (ws : List ℕ) (h : i < room_of ws) where
  -- fields of the chunk there
  pub number_in : get_or ws (i * 8) 0 ≡ (get_or (chunks ws) i blank_chunk).message.number
  unfolding chunk_from
  number_in = ap (λ (c : Chunk). c.message.number) (chunk_at i ws h)

  pub length_in : low_of (get_or ws (i * 8 + 5) 0) ≡ (get_or (chunks ws) i blank_chunk).length
  unfolding chunk_from
  length_in = ap (λ (c : Chunk). c.length) (chunk_at i ws h)

  pub stream_in_lem : get_or ws (i * 8 + 6) 0 % 65536 ≡ (get_or (chunks ws) i blank_chunk).message.stream
  unfolding chunk_from marks_in
  stream_in_lem = ap (λ (c : Chunk). c.message.stream) (chunk_at i ws h)

  pub kind_in : get_or ws (i * 8 + 6) 0 / 4294967296 % 256 ≡ (get_or (chunks ws) i blank_chunk).message.reliability.kind
  unfolding chunk_from marks_in
  kind_in = ap (λ (c : Chunk). c.message.reliability.kind) (chunk_at i ws h)

  pub protocol_in : low_of (get_or ws (i * 8 + 4) 0) ≡ (get_or (chunks ws) i blank_chunk).message.protocol
  unfolding chunk_from
  protocol_in = ap (λ (c : Chunk). c.message.protocol) (chunk_at i ws h)

  -- some words are written, and they say f of the chunk that was there
  changed : (f : Chunk → Chunk) {vs w : List ℕ} → Wrote chunk_in i ws vs w → chunk_in w ≡ f (chunk_in (words_of i ws)) → chunks vs ≡ adjust f i (chunks ws)
  changed f p e =
      p.slots ∙ ap (set (chunks ws) i) (e ∙ ap f (sym (slots_get chunk_in i ws blank_chunk h))) ∙ sym (adjust_set f i (chunks ws) blank_chunk)

  long : length (words_of i ws) ≡ 8
  long = length_words i ws h

  word : (k : ℕ) → k < 8 → get_or ws (i * 8 + k) 0 ≡ get_or (words_of i ws) k 0
  word k l = sym (word_at i k ws l)

  pub mark_slot : (m : ℕ) → marks_in m ≡ sent_again (marks_in (get_or ws (i * 8 + 6) 0)) → chunks (set ws (i * 8 + 6) m) ≡ adjust to_retransmit i (chunks ws)
  mark_slot m e =
      changed to_retransmit (wrote_more 6 (i * 8 + 6) m (omega arith) refl (wrote_none h))
      (mark_in (words_of i ws) long m (e ∙ ap (λ (n : ℕ). sent_again (marks_in n)) (word 6 (omega arith))))

  pub lower_slot : (id m : ℕ) → get_or ws (i * 8 + 6) 0 % 65536 ≡ id → marks_in m ≡ one_lower (marks_in (get_or ws (i * 8 + 6) 0))
      → chunks (set ws (i * 8 + 6) m) ≡ adjust (lowered id) i (chunks ws)
  unfolding marks_in
  lower_slot id m q e =
      let g = word 6 (omega arith) in
      changed (lowered id) (wrote_more 6 (i * 8 + 6) m (omega arith) refl (wrote_none h))
      (lower_in (words_of i ws) long id m (ap (λ (n : ℕ). n % 65536) (sym g) ∙ q) (e ∙ ap (λ (n : ℕ). one_lower (marks_in n)) g))

  pub give_slot : (n m : ℕ) → get_or ws (i * 8) 0 ≡ n → marks_in m ≡ left_off (marks_in (get_or ws (i * 8 + 6) 0))
      → chunks (set (set ws (i * 8 + 5) (get_or ws (i * 8 + 5) 0 - low_of (get_or ws (i * 8 + 5) 0))) (i * 8 + 6) m) ≡ adjust (given_up n) i (chunks ws)
  give_slot n m q e =
      let z = get_or ws (i * 8 + 5) 0 in
      let y = z - low_of z in
      let p = wrote_more 6 (i * 8 + 6) m (omega arith) refl (wrote_more 5 (i * 8 + 5) y (omega arith) refl (wrote_none h)) in
      let first = ap (λ (j : ℕ). get_or ws j 0) (add-zero (i * 8)) in
      changed (given_up n) p
      (ap (λ (k : ℕ). chunk_in (set (set (words_of i ws) 5 (k - low_of k)) 6 m)) (word 5 (omega arith))
      ∙ give_in (words_of i ws) long n m (sym (word 0 (omega arith)) ∙ first ∙ q) (e ∙ ap (λ (k : ℕ). left_off (marks_in k)) (word 6 (omega arith))))

  pub ack_slot : (m : ℕ) → marks_in m ≡ mark_acked (marks_in (get_or ws (i * 8 + 6) 0))
      → chunks (set (set ws (i * 8 + 5) (get_or ws (i * 8 + 5) 0 - low_of (get_or ws (i * 8 + 5) 0))) (i * 8 + 6) m) ≡ adjust acknowledged i (chunks ws)
  ack_slot m e =
      let z = get_or ws (i * 8 + 5) 0 in
      let y = z - low_of z in
      let p = wrote_more 6 (i * 8 + 6) m (omega arith) refl (wrote_more 5 (i * 8 + 5) y (omega arith) refl (wrote_none h)) in
      changed acknowledged p
      (ap (λ (k : ℕ). chunk_in (set (set (words_of i ws) 5 (k - low_of k)) 6 m)) (word 5 (omega arith))
      ∙ ack_in (words_of i ws) long m (e ∙ ap (λ (k : ℕ). mark_acked (marks_in k)) (word 6 (omega arith))))

  pub start_slot : (time k m : ℕ) → k ≤ get_or ws (i * 8) 0 → get_or ws (i * 8 + 6) 0 / 4294967296 % 256 ≡ 2 → (low_of (get_or ws (i * 8 + 4) 0) ≡ 50 → ⊥)
      → marks_in m ≡ with_deadline (marks_in (get_or ws (i * 8 + 6) 0))
      → chunks (set (set ws (i * 8 + 1) (time + high_of (get_or ws (i * 8 + 4) 0))) (i * 8 + 6) m) ≡ adjust (started time k) i (chunks ws)
  unfolding chunk_from marks_in
  start_slot time k m a b t e =
      let d = time + high_of (get_or ws (i * 8 + 4) 0) in
      let p = wrote_more 6 (i * 8 + 6) m (omega arith) refl (wrote_more 1 (i * 8 + 1) d (omega arith) refl (wrote_none h)) in
      let w = words_of i ws in
      let first = sym (word 0 (omega arith)) ∙ ap (λ (j : ℕ). get_or ws j 0) (add-zero (i * 8)) in
      let begins = lifetime k (get_or w 0 0) (marks_in (get_or w 6 0)).kind (low_of (get_or w 4 0)) (omega (arith, first)) (ap (λ (n : ℕ). n / 4294967296 % 256) (sym (word 6 (omega arith))) ∙ b) (λ z. t (ap low_of (word 4 (omega arith)) ∙ z)) in
      changed (started time k) p
      (ap (λ (n : ℕ). chunk_in (set (set w 1 (time + high_of n)) 6 m)) (word 4 (omega arith))
      ∙ start_in w long time k m begins (e ∙ ap (λ (n : ℕ). with_deadline (marks_in n)) (word 6 (omega arith))))
