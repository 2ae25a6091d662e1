-- The table of streams in lent cells. A caller of `find` goes on by `at_found` or `none_found`, of `update` by `update_put`, and of `open`
-- by `pushed_room` of `rows`.
use Rattle.std.specs.Prelude.{◌≡◌, refl, Bool, true, false, List, [], ◌∷◌, ℕ, suc, ◌+◌, ◌≤◌, ◌<◌, min, length, get_or, set, take, drop, eqb, Some, None}
use Rattle.std.proofs.Common.{sym, ap, ◌∙◌, zero-add, add-zero, add-one, arith, length-take, get_or-take, take-suc-set, eqb-true, eq-eqb, ne_eqb}
use Rattle.std.proofs.Math.Option.{Option, none, some}
use Rattle.std.proofs.Math.Seq.{take-set-lt, set_out}
use Rattle.model.specs.declared.Stream.{Stream}
use Rattle.model.specs.Lists.{when◌then◌else◌}
use Rattle.model.specs.Streams.{find, put}
use Rattle.rows.specs.Joins.{pushed, pushed_room, pushed_full}
use Rattle.rows.specs.Turns.{read_turn, rest_none}
use Rattle.cells.specs.Slots.{room_of, length_slots}
use Rattle.stream_table.specs.Streams.{Place, stream_in, streams, blank_stream}

-- the streams in the order of opening
abbrev pub table_of : (count : ℕ) → List ℕ → List Stream
table_of n ws = take n (streams ws)

-- how many streams stand before the first with the identifier; all of them, where none has it
abbrev pub place_of : (identifier : ℕ) → List Stream → ℕ
place_of id [] = 0
place_of id (t ∷ l) = when eqb t.identifier id then 0 else suc (place_of id l)

-- the answer of a search
abbrev placed : Option Stream → (place : ℕ) → Place
placed none i = None
placed (some t) i = Some (i, t)

abbrev pub sought : (identifier : ℕ) → List Stream → Place
sought id l = placed (find id l) (place_of id l)

-- ---- for callers

pub none_found : (id : ℕ) (l : List Stream) → None ≡ sought id l → find id l ≡ none
none_found id l e = case (find id l) refl
  where
    case : (o : Option Stream) → find id l ≡ o → find id l ≡ none
    case none q = q
    case (some t) q = let z : None ≡ Some (place_of id l, t) = e ∙ ap (λ (o : Option Stream). placed o (place_of id l)) q in cc

pub at_found : (id : ℕ) (l : List Stream) (i : ℕ) (t : Stream) → Some (i, t) ≡ sought id l → (find id l ≡ some t) × (i ≡ place_of id l)
at_found id l i t e = case (find id l) refl
  where
    case : (o : Option Stream) → find id l ≡ o → (find id l ≡ some t) × (i ≡ place_of id l)
    case none q = let z : Some (i, t) ≡ None = e ∙ ap (λ (o : Option Stream). placed o (place_of id l)) q in (cc, cc)
    case (some x) q =
        let z : Some (i, t) ≡ Some (place_of id l, x) = e ∙ ap (λ (o : Option Stream). placed o (place_of id l)) q in
        let pair : (i, t) ≡ (place_of id l, x) = cc in
        (q ∙ sym (ap (λ (p : ℕ × Stream). some p.1) pair), ap (λ (p : ℕ × Stream). p.0) pair)

-- what is found has the identifier
pub found_identifier : (id : ℕ) (l : List Stream) (t : Stream) → find id l ≡ some t → t.identifier ≡ id
found_identifier id [] t e = let z : ◌≡◌ {A = ℕ} 0 1 = cc in absurd (omega arith)
found_identifier id (x ∷ l) t e = case (eqb x.identifier id) refl (λ f. found_identifier id l t f)
  where
    case : (b : Bool) → eqb x.identifier id ≡ b → (find id l ≡ some t → t.identifier ≡ id) → t.identifier ≡ id
    case true q f =
        let z : some x ≡ some t = sym (ap (λ (b : Bool). when b then some x else find id l) q) ∙ e in
        let y : x ≡ t = cc in
        sym (ap (λ (s : Stream). s.identifier) y) ∙ eqb-true x.identifier id q
    case false q f = f (sym (ap (λ (b : Bool). when b then some x else find id l) q) ∙ e)

put_place : (t : Stream) (l : List Stream) → set l (place_of t.identifier l) t ≡ put t l
put_place t [] = refl
put_place t (x ∷ l) = case (eqb x.identifier t.identifier) (put_place t l)
  where
    case : (b : Bool) → set l (place_of t.identifier l) t ≡ put t l → set (x ∷ l) (when b then 0 else suc (place_of t.identifier l)) t ≡ (when b then (t ∷ l) else (x ∷ put t l))
    case true q = refl
    case false q = ap (λ (r : List Stream). x ∷ r) q

-- where `find` gave the place i and the stream t, and s keeps its identifier, `update` is the model's `put`
pub update_put : (id : ℕ) (l : List Stream) (i : ℕ) (t s : Stream) → Some (i, t) ≡ sought id l → s.identifier ≡ t.identifier → set l i s ≡ put s l
update_put id l i t s e q =
    let f = at_found id l i t e in
    let k : id ≡ s.identifier = sym (q ∙ found_identifier id l t f.0) in
    ap (λ (j : ℕ). set l j s) (f.1 ∙ ap (λ (n : ℕ). place_of n l) k) ∙ put_place s l

-- ---- how many there are

pub length_table : (n : ℕ) (ws : List ℕ) → length (table_of n ws) ≡ min n (room_of ws)
length_table n ws = length-take n (streams ws) ∙ ap (min n) (length_slots stream_in ws)

-- ---- a search by index: what is before i is not it
abbrev pub Seeking : (id : ℕ) → List Stream → (i : ℕ) → Type 0
Seeking id l i = sought id l ≡ placed (find id (drop i l)) (i + place_of id (drop i l))

pub seek_start : (id : ℕ) (l : List Stream) → Seeking id l 0
seek_start id l = ap (placed (find id l)) (sym (zero-add (place_of id l)))

pub seek_none : (id : ℕ) (l : List Stream) (i : ℕ) → length l ≤ i → Seeking id l i → None ≡ sought id l
seek_none id l i h v = sym (v ∙ ap (λ (r : List Stream). placed (find id r) (i + place_of id r)) (rest_none l i h))

-- what the table has at an index below its length
table_read : (n : ℕ) (ws : List ℕ) (i : ℕ) {t : Stream} → t ≡ get_or (streams ws) i blank_stream → i < length (table_of n ws) → drop i (table_of n ws) ≡ t ∷ drop (i + 1) (table_of n ws)
table_read n ws i q h =
    let k : i < n = omega (arith, length_table n ws) in
    read_turn (table_of n ws) i blank_stream (q ∙ sym (get_or-take n (streams ws) i blank_stream k)) h

module _ (id n : ℕ) (ws : List ℕ) (i : ℕ) {t : Stream} (q : t ≡ get_or (streams ws) i blank_stream) (h : i < length (table_of n ws)) (v : Seeking id (table_of n ws) i) where
  abbrev rest : List Stream
  rest = drop (i + 1) (table_of n ws)

  -- the answer by the test of what was read
  abbrev turn : Bool → Place
  turn b = placed (when b then some t else find id rest) (i + (when b then 0 else suc (place_of id rest)))

  here : sought id (table_of n ws) ≡ turn (eqb t.identifier id)
  here = v ∙ ap (λ (r : List Stream). placed (find id r) (i + place_of id r)) (table_read n ws i q h)

  pub seek_hit : t.identifier ≡ id → Some (i, t) ≡ sought id (table_of n ws)
  seek_hit e = sym (here ∙ ap turn (eq-eqb t.identifier id e) ∙ ap (λ (k : ℕ). Some (k, t)) (add-zero i))

  pub seek_miss : (t.identifier ≡ id → ⊥) → Seeking id (table_of n ws) (i + 1)
  seek_miss e =
      let k : i + suc (place_of id rest) ≡ i + 1 + place_of id rest = omega arith in
      here ∙ ap turn (ne_eqb t.identifier id e) ∙ ap (placed (find id rest)) k

-- ---- a slot is written: vs are the words then

module _ (n : ℕ) (ws vs : List ℕ) (t : Stream) where
  pub table_set : (i : ℕ) → streams vs ≡ set (streams ws) i t → i < n → table_of n vs ≡ set (table_of n ws) i t
  table_set i q h = ap (take n) q ∙ take-set-lt n (streams ws) i t h

  pub table_join : streams vs ≡ set (streams ws) n t → n < room_of ws → table_of (n + 1) vs ≡ pushed (room_of ws) (table_of n ws) t
  table_join q h =
      let k : n < length (streams ws) = omega (arith, length_slots stream_in ws) in
      let j : length (table_of n ws) < room_of ws = omega (arith, length_table n ws) in
      ap (λ (m : ℕ). take m (streams vs)) (add-one n) ∙ ap (take (suc n)) q ∙ take-suc-set (streams ws) n t k
      ∙ pushed_room (room_of ws) (table_of n ws) t j

-- ---- none is

pub table_past : (n : ℕ) (ws : List ℕ) (i : ℕ) (t : Stream) → n ≤ i → table_of n ws ≡ set (table_of n ws) i t
table_past n ws i t h = let k : length (table_of n ws) ≤ i = omega (arith, length_table n ws) in sym (set_out (table_of n ws) i t k)

pub table_full : (n : ℕ) (ws : List ℕ) (t : Stream) → room_of ws ≤ n → table_of n ws ≡ pushed (room_of ws) (table_of n ws) t
table_full n ws t h =
    let k : room_of ws ≤ length (table_of n ws) = omega (arith, length_table n ws) in
    pushed_full (room_of ws) (table_of n ws) t k
