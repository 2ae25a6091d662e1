-- What each way out of a call comes to, of a sender that is a variable.
use Rattle.std.specs.Prelude.{◌≡◌, Bool, true, false, not, ◌&&◌, List, [], ◌∷◌, ◌++◌, ℕ, ◌≤◌, ◌<◌, length, set, ltb, ℤ, Result, Ok, Err, Some, None}
use Rattle.std.proofs.Math.Path.{refl, sym, ap, ap₂}
use Rattle.std.proofs.Common.{◌∙◌, subst, ⊎_elim, true≢false, le-leb, ltb-true, ltb-false}
use Rattle.std.proofs.Math.Bool.{and-false}
use Rattle.std.proofs.Math.Option.{Option, none, some}
use Rattle.std.proofs.Math.Dec.{leb}
use Rattle.std.proofs.lemmas.Bool.{lt-leb}
use Rattle.limits.specs.Limits.{Room, payload_max}
use Rattle.model.specs.declared.Stream.{Stream}
use Rattle.model.specs.Lists.{when◌then◌else◌}
use Rattle.model.specs.State.{Sender, Out, same, with_streams}
use Rattle.model.specs.Streams.{find, put, accounted, opened, open_new, open_stream, changed, releasing, release}
use Rattle.model.specs.Rings.{ssn_before, drop_ssn}
use Rattle.rows.specs.Joins.{pushed, pushed_room}
use Rattle.rows.specs.View.{lt_or_ge}
use Rattle.stream_table.specs.Streams.{Place}
use Rattle.std.specs.Option.{is_some}
use Rattle.stream.specs.Amounts.{Freed, freeing}
use Rattle.stream_table.specs.Tables.{sought, none_found, at_found, update_put}
use Rattle.sender_head.specs.declared.Head.{Head}
use Rattle.sender_head.specs.Whole.{sender_of, Counted}
use Rattle.sender_head.specs.Calls.{GoesOrStays, Becomes}
use Rattle.limits.specs.declared.Refusal.{Refusal}
use Rattle.limits.specs.declared.Refusal.TheVariants.{BadBounds, NotOpen, AlreadyOpen, StreamsFull}
use Rattle.model.specs.Answers.{Done, Released, did}
use Rattle.model.specs.Told.{told_done, told_released}

-- ---- an open stream is changed: `met` says what a change may do, of the stream before, the answer and the stream then

-- the stream before stood at `place`, and the stream then takes its place
pub record Changed {A : Type 0} (met : Stream → A → Stream → Type 0) (id : ℕ) (h : Head) (ws vs : List ℕ) (a : A) : Type 0 where
  pub place : ℕ
  pub before : Stream
  pub after : Stream
  pub found : Some (place, before) ≡ sought id (sender_of h ws).streams
  pub meets : met before a after
  pub becomes : Becomes (λ s. with_streams (set s.streams place after) s) h ws h vs

-- where it is not open, every word stays
abbrev pub Altered : {A : Type 0} → (met : Stream → A → Stream → Type 0) → (id : ℕ) → Head → (ws vs : List ℕ) → Result A Refusal → Type 0
Altered met id h ws vs (Ok a) = Changed met id h ws vs a
Altered met id h ws vs (Err e) = (e ≡ NotOpen) × (None ≡ sought id (sender_of h ws).streams) × (vs ≡ ws)

-- ---- a stream that is not open

module _ (id : ℕ) (s : Sender) (e : None ≡ sought id s.streams) where
  absent : find id s.streams ≡ none
  absent = none_found id s.streams e

  unchanged : (f : Stream → Stream) → same (Err NotOpen) s ≡ changed (find id s.streams) f s
  unchanged f = sym (ap (λ (o : Option Stream). changed o f s) absent)

  release_refused : (z : ℤ) → same (Err NotOpen) s ≡ release id z s
  unfolding release
  release_refused z = sym (ap (λ (o : Option Stream). releasing o z s) absent)

  none_lowered : s ≡ with_streams (drop_ssn (find id s.streams) s.streams) s
  none_lowered = sym (ap (λ (o : Option Stream). with_streams (drop_ssn o s.streams) s) absent)

-- ---- the open stream `t`, at the place `i`

module _ (id : ℕ) (s : Sender) (i : ℕ) (t : Stream) (e : Some (i, t) ≡ sought id s.streams) where
  present : find id s.streams ≡ some t
  present = (at_found id s.streams i t e).0

  -- `x` takes its place, and `z` is the sender then
  module _ {x : Stream} {z : Sender} (b : z ≡ with_streams (set s.streams i x) s) where
    -- `y` is what 01 says of it
    placed : (y : Stream) → y.identifier ≡ t.identifier → x ≡ y → z ≡ with_streams (put y s.streams) s
    placed y q w =
        b ∙ ap (λ (r : Stream). with_streams (set s.streams i r) s) w
        ∙ ap (λ (l : List Stream). with_streams l s) (update_put id s.streams i t y e q)

    change : (f : Stream → Stream) → (f t).identifier ≡ t.identifier → x ≡ f t → record { after = z; says = did } ≡ changed (find id s.streams) f s
    change f q w =
        ap (λ (o : Sender). record { after = o; says = did }) (placed (f t) q w)
        ∙ sym (ap (λ (o : Option Stream). changed o f s) present)

    ssn_lowered : x ≡ accounted (ssn_before t.ssn) t.buffered t.statistics t → z ≡ with_streams (drop_ssn (find id s.streams) s.streams) s
    ssn_lowered w =
        placed (accounted (ssn_before t.ssn) t.buffered t.statistics t) refl w
        ∙ sym (ap (λ (o : Option Stream). with_streams (drop_ssn o s.streams) s) present)

  -- `x` and `f` are what the stream's own call gave
  released : (n : ℤ) {x : Stream} {f : Bool} {z : Sender} → record { stream = x; low = f } ≡ freeing n t → z ≡ with_streams (set s.streams i x) s → record { after = z; says = Ok f } ≡ release id n s
  unfolding release
  released n {x} {f} {z} w b =
      let y = freeing n t in
      ap₂ (λ (o : Sender) (l : Bool). record { after = o; says = Ok l }) (placed b y.stream refl (ap (λ (g : Freed). g.stream) w)) (ap (λ (g : Freed). g.low) w)
      ∙ sym (ap (λ (o : Option Stream). releasing o n s) present)

-- ---- from a change to 01's calls

module _ (id : ℕ) (h : Head) (ws vs : List ℕ) where
  counted_same : vs ≡ ws → Counted h ws → Counted h vs
  counted_same q k = subst (Counted h) (sym q) k

  pub settings_told : {met : Stream → Unit {0} → Stream → Type 0} (f : Stream → Stream) → ((t : Stream) → (f t).identifier ≡ t.identifier)
      → ((t x : Stream) (u : Unit {0}) → met t u x → x ≡ f t) → (r : Done) → Altered met id h ws vs r
      → GoesOrStays told_done (λ s. changed (find id s.streams) f s) h ws h vs r
  settings_told f k m (Ok u) q =
      ((change id (sender_of h ws) q.place q.before q.found q.becomes.0 f (k q.before) (m q.before q.after u q.meets), q.becomes.1), λ n. absurd (n refl))
  settings_told f k m (Err e) (p, absent, same) =
      (((λ i. record { after = sender_of h (same i); says = Err (p i) }) ∙ unchanged id (sender_of h ws) absent f, counted_same same), λ n. (refl, same))

  pub release_told : {met : Stream → Bool → Stream → Type 0} (n : ℤ) → ((t x : Stream) (f : Bool) → met t f x → record { stream = x; low = f } ≡ freeing n t)
      → (r : Released) → Altered met id h ws vs r → GoesOrStays told_released (release id n) h ws h vs r
  release_told n m (Ok f) q =
      ((released id (sender_of h ws) q.place q.before q.found n (m q.before q.after f q.meets) q.becomes.0, q.becomes.1), λ n. absurd (n refl))
  release_told n m (Err e) (p, absent, same) =
      (((λ i. record { after = sender_of h (same i); says = Err (p i) }) ∙ release_refused id (sender_of h ws) absent n, counted_same same), λ n. (refl, same))

  pub lowered_told : {met : Stream → Unit {0} → Stream → Type 0} → ((t x : Stream) (u : Unit {0}) → met t u x → x ≡ accounted (ssn_before t.ssn) t.buffered t.statistics t)
      → (r : Done) → Altered met id h ws vs r → Becomes (λ s. with_streams (drop_ssn (find id s.streams) s.streams) s) h ws h vs
  lowered_told m (Ok u) q = (ssn_lowered id (sender_of h ws) q.place q.before q.found q.becomes.0 (m q.before q.after u q.meets), q.becomes.1)
  lowered_told m (Err e) (p, absent, same) =
      (ap (sender_of h) same ∙ none_lowered id (sender_of h ws) absent, counted_same same)

-- ---- opening

module _ (room : Room) (id m : ℕ) (s : Sender) where
  -- by what code finds of the bounds
  abbrev picks : Bool → Out Done
  picks b = when not b then same (Err BadBounds) s else open_new (find id s.streams) room id m s

  open_small : m < 1 → same (Err BadBounds) s ≡ open_stream room id m s
  unfolding open_stream
  open_small h = sym (ap (λ (b : Bool). picks (b && leb m payload_max)) (lt-leb 1 m h))

  open_large : payload_max < m → same (Err BadBounds) s ≡ open_stream room id m s
  unfolding open_stream
  open_large h = sym (ap (λ (b : Bool). picks (leb 1 m && b)) (lt-leb m payload_max h) ∙ ap picks (and-false (leb 1 m)))

  pub open_outside : (1 ≤ m → m ≤ payload_max → ⊥) → same (Err BadBounds) s ≡ open_stream room id m s
  open_outside f = ⊎_elim open_small (λ l. ⊎_elim open_large (λ h. absurd (f l h)) (lt_or_ge payload_max m)) (lt_or_ge m 1)

  module _ (l : 1 ≤ m) (h : m ≤ payload_max) where
    -- `o` is what the table has of the identifier
    within : {o : Option Stream} → find id s.streams ≡ o → open_new o room id m s ≡ open_stream room id m s
    unfolding open_stream
    within q =
        ap (λ (o : Option Stream). open_new o room id m s) (sym q)
        ∙ sym (ap₂ (λ (a b : Bool). picks (a && b)) (le-leb 1 m l) (le-leb m payload_max h))

    pub open_again : (p : Place) → p ≡ sought id s.streams → true ≡ is_some p → same (Err AlreadyOpen) s ≡ open_stream room id m s
    open_again (Some p) q e = within (at_found id s.streams p.0 p.1 q).0
    open_again None q e = absurd (true≢false e)

    -- none has the identifier, and the new stream `x` joins: `d` tells whether there was room, and `z` is the sender then
    module _ (p : Place) (a : p ≡ sought id s.streams) (n : false ≡ is_some p) {d : Bool} (r : d ≡ ltb (length s.streams) room.streams) {x : Stream} (w : x ≡ opened id m) {z : Sender} (b : z ≡ with_streams (pushed room.streams s.streams x) s) where
      nowhere : (p : Place) → false ≡ is_some p → None ≡ p
      nowhere None n = refl
      nowhere (Some t) n = absurd (true≢false (sym n))

      -- those that are open
      abbrev ts : List Stream
      ts = s.streams

      -- by whether the table is full
      abbrev new : Bool → Out Done
      new f = when f then same (Err StreamsFull) s else record { after = with_streams (ts ++ (opened id m ∷ [])) s; says = did }

      absent_now : {f : Bool} → leb room.streams (length ts) ≡ f → new f ≡ open_stream room id m s
      absent_now q = sym (ap new q) ∙ within (none_found id ts (nowhere p n ∙ a))

      pub open_full : d ≡ false → record { after = z; says = Err StreamsFull } ≡ open_stream room id m s
      open_full q =
          let f = sym r ∙ q in
          ap (λ (o : Sender). record { after = o; says = Err StreamsFull }) (b ∙ ap (λ (a : Bool). with_streams (when a then ts ++ (x ∷ []) else ts) s) f)
          ∙ absent_now (le-leb room.streams (length ts) (ltb-false (length ts) room.streams f))

      pub open_done : d ≡ true → record { after = z; says = did } ≡ open_stream room id m s
      open_done q =
          let h = ltb-true (length ts) room.streams (sym r ∙ q) in
          ap (λ (o : Sender). record { after = o; says = did }) b
          ∙ ap (λ (l : List Stream). record { after = with_streams l s; says = did }) (sym (pushed_room room.streams ts x h) ∙ ap (λ (y : Stream). ts ++ (y ∷ [])) w)
          ∙ absent_now (lt-leb room.streams (length ts) h)
