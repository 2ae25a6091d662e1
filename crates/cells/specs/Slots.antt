-- What a slice of words holds: an element to each eight words, by a reading `f` of eight words. Shut: a proof goes by the laws of its
-- length, of an element, and of the words of a slot that are written.
use Rattle.std.specs.Prelude.{◌≡◌, Bool, length, get_or, take, ltb}
use Rattle.std.proofs.Math.Path.{refl, ap}
use Rattle.std.proofs.Common.{sym, ◌∙◌, ⊎_elim, not-suc-le-zero, le_of_suc-le-suc, zero-mul, zero-add, length-set, length-take, length-drop, lt-ltb, le-ltb, drop-drop, drop-cons, get_or-drop, get_or-take, drop-set-lt, set-set}
use mathlib.Core.List.{List, [], ◌∷◌, ◌++◌}
use Prim.Native.Nat.{ℕ, zero, suc, ◌+◌, ◌*◌, ◌/◌, ◌≤◌, ◌<◌, min}
use native.Mathlib.Omega.{arith}
use Rattle.std.proofs.Math.ListN.{set, drop}
use Rattle.model.specs.Lists.{when◌then◌else◌}
use Rattle.rows.specs.View.{lt_or_ge}
use Rattle.std.proofs.Math.Seq.{drop-length, take-set-lt, set_out}
use Rattle.std.proofs.lemmas.List.{take-set-le, drop-set-add, set-get_or}
use Rattle.std.proofs.lemmas.List.Edits.{sets, sets-eq}

-- at most 2 ^ 30 slots: so a sum of 32-bit lengths over two rings and the flight fits 64 bits, and no call has to ask for that
abbrev pub limit : ℕ
limit = 1073741824

-- how many slots the words make; up to seven words at the end are of no slot
abbrev pub room_of : List ℕ → ℕ
room_of ws = min (length ws / 8) limit

-- the words of slot i
abbrev pub words_of : (i : ℕ) → List ℕ → List ℕ
words_of i ws = take 8 (drop (i * 8) ws)

module _ {A : Type 0} (f : List ℕ → A) where
  slots_up_to : ℕ → List ℕ → List A
  slots_up_to zero ws = []
  slots_up_to (suc n) ws = f (take 8 ws) ∷ slots_up_to n (drop 8 ws)

  pub slots_of : List ℕ → List A
  slots_of ws = slots_up_to (room_of ws) ws

-- ---- how many there are

module _ {A : Type 0} (f : List ℕ → A) where
  length_up_to : (n : ℕ) (ws : List ℕ) → length (slots_up_to f n ws) ≡ n
  unfolding slots_up_to
  length_up_to zero ws = refl
  length_up_to (suc n) ws = ap suc (length_up_to n (drop 8 ws))

  pub length_slots : (ws : List ℕ) → length (slots_of f ws) ≡ room_of ws
  unfolding slots_of
  length_slots ws = length_up_to (room_of ws) ws

  -- past the end there is none
  pub slots_past : (i : ℕ) (ws : List ℕ) → room_of ws ≤ i → length (slots_of f ws) ≤ i
  slots_past i ws h = omega (arith, length_slots ws)

-- ---- the words of a slot

-- word k of slot i
pub word_at : (i k : ℕ) (ws : List ℕ) → k < 8 → get_or (words_of i ws) k 0 ≡ get_or ws (i * 8 + k) 0
word_at i k ws h = get_or-take 8 (drop (i * 8) ws) k 0 h ∙ get_or-drop (i * 8) ws k 0

pub length_words : (i : ℕ) (ws : List ℕ) → i < room_of ws → length (words_of i ws) ≡ 8
length_words i ws h = simp (length-take, length-drop) (omega arith)

-- eight words are their words
pub eight : (w : List ℕ) → length w ≡ 8
    → w ≡ get_or w 0 0 ∷ get_or w 1 0 ∷ get_or w 2 0 ∷ get_or w 3 0 ∷ get_or w 4 0 ∷ get_or w 5 0 ∷ get_or w 6 0 ∷ get_or w 7 0 ∷ []
eight w h =
    let z : drop 8 w ≡ [] = ap (λ (n : ℕ). drop n w) (sym h) ∙ drop-length w in
    cc (drop-cons w 0 0 (omega arith), drop-cons w 1 0 (omega arith), drop-cons w 2 0 (omega arith), drop-cons w 3 0 (omega arith), drop-cons w 4 0 (omega arith), drop-cons w 5 0 (omega arith), drop-cons w 6 0 (omega arith), drop-cons w 7 0 (omega arith))

-- ---- an element of the list

module _ {A : Type 0} (f : List ℕ → A) where
  get_up_to : (n i : ℕ) (ws : List ℕ) (d : A) → i < n → get_or (slots_up_to f n ws) i d ≡ f (words_of i ws)
  unfolding slots_up_to
  get_up_to zero i ws d h = absurd (not-suc-le-zero h)
  get_up_to (suc n) zero ws d h = ap (λ (k : ℕ). f (take 8 (drop k ws))) (sym (zero-mul 8))
  get_up_to (suc n) (suc i) ws d h =
      let k : 8 + i * 8 ≡ suc i * 8 = omega arith in
      get_up_to n i (drop 8 ws) d (le_of_suc-le-suc h) ∙ ap (λ (l : List ℕ). f (take 8 l)) (drop-drop (i * 8) 8 ws ∙ ap (λ (k : ℕ). drop k ws) k)

  pub slots_get : (i : ℕ) (ws : List ℕ) (d : A) → i < room_of ws → get_or (slots_of f ws) i d ≡ f (words_of i ws)
  unfolding slots_of
  slots_get i ws d h = get_up_to (room_of ws) i ws d h

  -- ---- words of a slot are written

  module _ (k v : ℕ) (h : k < 8) where
    set_up_to : (n i : ℕ) (ws : List ℕ) → i < n → slots_up_to f n (set ws (i * 8 + k) v) ≡ set (slots_up_to f n ws) i (f (set (words_of i ws) k v))
    unfolding slots_up_to
    set_up_to zero i ws l = absurd (not-suc-le-zero l)
    set_up_to (suc n) zero ws l =
        let z : 0 * 8 + k ≡ k = omega arith in
        ap (λ (j : ℕ). slots_up_to f (suc n) (set ws j v)) z
        ∙ ap (λ (r : List ℕ). f r ∷ slots_up_to f n (drop 8 (set ws k v))) (take-set-lt 8 ws k v h)
        ∙ ap (λ (r : List ℕ). f (set (take 8 ws) k v) ∷ slots_up_to f n r) (drop-set-lt 8 ws k v h)
        ∙ ap (λ (j : ℕ). f (set (take 8 (drop j ws)) k v) ∷ slots_up_to f n (drop 8 ws)) (sym (zero-mul 8))
    set_up_to (suc n) (suc i) ws l =
        let z : suc i * 8 + k ≡ 8 + (i * 8 + k) = omega arith in
        let q : 8 + i * 8 ≡ suc i * 8 = omega arith in
        ap (λ (j : ℕ). slots_up_to f (suc n) (set ws j v)) z
        ∙ ap (λ (r : List ℕ). f r ∷ slots_up_to f n (drop 8 (set ws (8 + (i * 8 + k)) v))) (take-set-le 8 ws (8 + (i * 8 + k)) v (omega arith))
        ∙ ap (λ (r : List ℕ). f (take 8 ws) ∷ slots_up_to f n r) (drop-set-add 8 ws (i * 8 + k) v)
        ∙ ap (λ (r : List A). f (take 8 ws) ∷ r) (set_up_to n i (drop 8 ws) (le_of_suc-le-suc l))
        ∙ ap (λ (r : List ℕ). f (take 8 ws) ∷ set (slots_up_to f n (drop 8 ws)) i (f (set (take 8 r) k v))) (drop-drop (i * 8) 8 ws ∙ ap (λ (j : ℕ). drop j ws) q)

    slots_set : (i : ℕ) (ws : List ℕ) → i < room_of ws → slots_of f (set ws (i * 8 + k) v) ≡ set (slots_of f ws) i (f (set (words_of i ws) k v))
    unfolding slots_of
    slots_set i ws l =
        ap (λ (n : ℕ). slots_up_to f (min (n / 8) limit) (set ws (i * 8 + k) v)) (length-set ws (i * 8 + k) v)
        ∙ set_up_to (room_of ws) i ws l

-- after some writes to slot i of ws the words are vs, and those of the slot are w
pub record Wrote {A : Type 0} (f : List ℕ → A) (i : ℕ) (ws vs w : List ℕ) : Type 0 where
  pub inside : i < room_of ws
  pub long : length vs ≡ length ws
  pub here : words_of i vs ≡ w
  pub slots : slots_of f vs ≡ set (slots_of f ws) i (f w)

module _ {A : Type 0} {f : List ℕ → A} {i : ℕ} {ws : List ℕ} where
  pub wrote_none : i < room_of ws → Wrote f i ws ws (words_of i ws)
  wrote_none h =
      let d = f [] in
      record {
        inside = h;
        long = refl;
        here = refl;
        slots = sym (set-get_or (slots_of f ws) i d) ∙ ap (λ (a : A). set (slots_of f ws) i a) (slots_get f i ws d h);
      }

  -- one more: word k, at j
  pub wrote_more : {vs w : List ℕ} (k j v : ℕ) → k < 8 → j ≡ i * 8 + k → Wrote f i ws vs w → Wrote f i ws (set vs j v) (set w k v)
  wrote_more {vs} {w} k j v h e p =
      let l : i < room_of vs = omega (arith, p.inside, p.long) in
      let q : set vs j v ≡ set vs (i * 8 + k) v = ap (λ (n : ℕ). set vs n v) e in
      record {
        inside = p.inside;
        long = length-set vs j v ∙ p.long;
        here =
            ap (words_of i) q ∙ ap (take 8) (drop-set-add (i * 8) vs k v) ∙ take-set-lt 8 (drop (i * 8) vs) k v h ∙ ap (λ (r : List ℕ). set r k v) p.here;
        slots =
            ap (slots_of f) q ∙ slots_set f k v h i vs l ∙ ap (λ (r : List A). set r i (f (set (words_of i vs) k v))) p.slots
            ∙ set-set (slots_of f ws) i (f w) (f (set (words_of i vs) k v)) ∙ ap (λ (r : List ℕ). set (slots_of f ws) i (f (set r k v))) p.here;
      }

  -- several, from word k on
  wrote_sets : {vs w : List ℕ} (us : List ℕ) (k j : ℕ) → k + length us ≤ 8 → j ≡ i * 8 + k → Wrote f i ws vs w → Wrote f i ws (sets vs j us) (sets w k us)
  wrote_sets [] k j h e p = p
  wrote_sets (u ∷ us) k j h e p = wrote_sets us (suc k) (suc j) (omega arith) (omega arith) (wrote_more k j u (omega arith) e p)

-- the first words are written, and the others stay
slots_sets : {A : Type 0} (f : List ℕ → A) (i : ℕ) (ws us : List ℕ) → i < room_of ws → length us ≤ 8
    → slots_of f (sets ws (i * 8) us) ≡ set (slots_of f ws) i (f (us ++ drop (length us) (words_of i ws)))
slots_sets f i ws us h l =
    let w = words_of i ws in
    let k : 0 + length us ≤ length w = omega (arith, length_words i ws h) in
    let z : i * 8 ≡ i * 8 + 0 = omega arith in
    (wrote_sets {f = f} us 0 (i * 8) (omega arith) z (wrote_none h)).slots
    ∙ ap (λ (r : List ℕ). set (slots_of f ws) i (f r)) (sets-eq us w 0 k ∙ ap (λ (n : ℕ). us ++ drop n w) (zero-add (length us)))

-- the first words of slot i are others; where there is no such slot, nothing is
abbrev pub written : (i : ℕ) (us ws : List ℕ) → List ℕ
written i us ws = when ltb i (room_of ws) then sets ws (i * 8) us else ws

pub written_in : (i : ℕ) (us ws : List ℕ) → i < room_of ws → sets ws (i * 8) us ≡ written i us ws
written_in i us ws h = sym (ap (λ (b : Bool). when b then sets ws (i * 8) us else ws) (lt-ltb i (room_of ws) h))

pub written_past : (i : ℕ) (us ws : List ℕ) → room_of ws ≤ i → ws ≡ written i us ws
written_past i us ws h = sym (ap (λ (b : Bool). when b then sets ws (i * 8) us else ws) (le-ltb i (room_of ws) h))

pub slots_written : {A : Type 0} (f : List ℕ → A) (i : ℕ) (us ws : List ℕ) → length us ≤ 8
    → slots_of f (written i us ws) ≡ set (slots_of f ws) i (f (us ++ drop (length us) (words_of i ws)))
slots_written f i us ws l = ⊎_elim inside outside (lt_or_ge i (room_of ws))
  where
    inside : i < room_of ws → slots_of f (written i us ws) ≡ set (slots_of f ws) i (f (us ++ drop (length us) (words_of i ws)))
    inside h = ap (slots_of f) (sym (written_in i us ws h)) ∙ slots_sets f i ws us h l

    outside : room_of ws ≤ i → slots_of f (written i us ws) ≡ set (slots_of f ws) i (f (us ++ drop (length us) (words_of i ws)))
    outside h =
        ap (slots_of f) (sym (written_past i us ws h)) ∙ sym (set_out (slots_of f ws) i (f (us ++ drop (length us) (words_of i ws))) (slots_past f i ws h))
