-- The table of streams: what every change of it keeps.
use Prim.Native.Nat.{ℕ, zero, suc, ◌+◌, ◌^◌, ◌≤◌, ◌<◌}
use native.Mathlib.Nat.{le_refl, le_trans}
use native.Mathlib.Omega.{arith}
use mathlib.Core.Path.{◌≡◌, refl, sym, ap, subst, ◌∙◌}
use mathlib.Core.Bool.{Bool, true, false, not, ◌&&◌, ◌||◌}
use mathlib.Core.Option.{Option, none, some}
use mathlib.Core.List.{List, [], ◌∷◌, ◌++◌}
use lib.ListN.{length, length-append}
use lib.Dec.{leb, eqb, lit≤, lit<}
use lib.IntN.{ℤ, pos, negsuc}
use borrow.Author.Tests.{leb-true, leb-false, not-false, eqb-true, eqb-false, ne_eqb}
use Rattle.limits.specs.Limits.{Room, payload_max, buffered_max, number_max, ssns}
use Rattle.model.specs.declared.Reliability.{Reliability}
use Rattle.model.specs.declared.Statistics.{Statistics}
use Rattle.model.specs.declared.Stream.{Stream}
use Rattle.model.specs.Lists.{when◌then◌else◌}
use Rattle.model.specs.Streams.{find, put, delivering, thresholds, accounted, opened, reduced}
use Rattle.model.specs.Messages.{is_unordered, ssn_after, saturated, counted_by, written}
use Rattle.model.specs.Rings.{ssn_before, drop_ssn}
use Rattle.model.specs.Calls.{Call}
use Rattle.demands.specs.Words.{Each}
use Rattle.demands.specs.States.{Sized, Distinct}
use Rattle.demands.specs.Numbers.{Typed, ReliabilityFits, StreamFits}
use Rattle.demands.proofs.Each.{each_append}
use Rattle.demands.proofs.Basic.{if-case, bool_case, and_l, and_r}

-- what a call k does to the table: streams that fit still do, each maximum is still at least 1, none stands twice, the room is kept, and open streams stay open
pub record Table (room : Room) (k : Call) (l l' : List Stream) : Type 0 where
  pub fits : Typed k → Each StreamFits l → Each StreamFits l'
  pub sized : Each Sized l → Each Sized l'
  pub distinct : Distinct l → Distinct l'
  pub within : length l ≤ room.streams → length l' ≤ room.streams
  pub still : (id : ℕ) (t : Stream) → find id l ≡ some t → (t' : Stream) × (find id l' ≡ some t')

pub table_same : (room : Room) (k : Call) (l : List Stream) → Table room k l l
table_same room k l = record { fits = λ _ h. h; sized = λ h. h; distinct = λ h. h; within = λ h. h; still = λ id t e. (t, e) }

-- ---- finding

pub each_find : (P : Stream → Type 0) (id : ℕ) (l : List Stream) (t : Stream) → find id l ≡ some t → Each P l → P t
each_find P id [] t e a = let z : ◌≡◌ {A = ℕ} 0 1 = cc in absurd (omega arith)
each_find P id (x ∷ l) t e a =
    bool_case (λ b. (when b then some x else find id l) ≡ some t → P t) (eqb x.identifier id)
    (λ _ q. let w : x ≡ t = cc in subst P w a.0) (λ _ q. each_find P id l t q a.1) e

pub found_is : (id : ℕ) (l : List Stream) (t : Stream) → find id l ≡ some t → t.identifier ≡ id
found_is id [] t e = let z : ◌≡◌ {A = ℕ} 0 1 = cc in absurd (omega arith)
found_is id (x ∷ l) t e =
    bool_case (λ b. eqb x.identifier id ≡ b → (when b then some x else find id l) ≡ some t → t.identifier ≡ id) (eqb x.identifier id)
    (λ _ h q. let w : x ≡ t = cc in subst (λ (y : Stream). y.identifier ≡ id) w (eqb-true x.identifier id h))
    (λ _ _ q. found_is id l t q) refl e

-- ---- an entry is replaced by one with the same identifier

each_put : (P : Stream → Type 0) (t : Stream) (l : List Stream) → P t → Each P l → Each P (put t l)
each_put P t [] p a = tt
each_put P t (x ∷ l) p a =
    if-case (λ (y : List Stream). Each P y) (eqb x.identifier t.identifier) (λ _. (p, a.1)) (λ _. (a.0, each_put P t l p a.1))

length_put : (t : Stream) (l : List Stream) → length (put t l) ≡ length l
length_put t [] = refl
length_put t (x ∷ l) =
    if-case (λ (y : List Stream). length y ≡ suc (length l)) (eqb x.identifier t.identifier) (λ _. refl) (λ _. ap suc (length_put t l))

-- the identifiers stay
find_none_put : (id : ℕ) (t : Stream) (l : List Stream) → find id l ≡ none → find id (put t l) ≡ none
find_none_put id t [] e = refl
find_none_put id t (x ∷ l) e =
    bool_case (λ b. eqb x.identifier t.identifier ≡ b → find id (when b then (t ∷ l) else (x ∷ put t l)) ≡ none) (eqb x.identifier t.identifier)
    (λ _ h. rw (ap (λ (n : ℕ). eqb n id) (sym (eqb-true x.identifier t.identifier h)))
    (bool_case (λ b. (when b then some x else find id l) ≡ none → (when b then some t else find id l) ≡ none) (eqb x.identifier id)
    (λ _ q. let z : ◌≡◌ {A = ℕ} 0 1 = cc in absurd (omega arith)) (λ _ q. q) e))
    (λ _ _. bool_case (λ b. (when b then some x else find id l) ≡ none → (when b then some x else find id (put t l)) ≡ none) (eqb x.identifier id)
    (λ _ q. q) (λ _ q. find_none_put id t l q) e) refl

find_some_put : (id : ℕ) (t : Stream) (l : List Stream) (x : Stream) → find id l ≡ some x → (y : Stream) × (find id (put t l) ≡ some y)
find_some_put id t l x e = go (find id (put t l)) refl
  where
    back : (l : List Stream) → find id (put t l) ≡ none → find id l ≡ none
    back [] q = refl
    back (y ∷ l) q =
        bool_case (λ b. eqb y.identifier t.identifier ≡ b → find id (when b then (t ∷ l) else (y ∷ put t l)) ≡ none → find id (y ∷ l) ≡ none) (eqb y.identifier t.identifier)
        (λ _ h r. rw (ap (λ (n : ℕ). eqb n id) (eqb-true y.identifier t.identifier h))
        (bool_case (λ b. (when b then some t else find id l) ≡ none → (when b then some y else find id l) ≡ none) (eqb t.identifier id)
        (λ _ z. let w : ◌≡◌ {A = ℕ} 0 1 = cc in absurd (omega arith)) (λ _ z. z) r))
        (λ _ _ r. bool_case (λ b. (when b then some y else find id (put t l)) ≡ none → (when b then some y else find id l) ≡ none) (eqb y.identifier id)
        (λ _ z. z) (λ _ z. back l z) r) refl q

    go : (o : Option Stream) → find id (put t l) ≡ o → (y : Stream) × (find id (put t l) ≡ some y)
    go none q = let z : ◌≡◌ {A = Option Stream} none (some x) = sym (back l q) ∙ e in let w : ◌≡◌ {A = ℕ} 0 1 = cc in absurd (omega arith)
    go (some y) q = (y, q)

distinct_put : (t : Stream) (l : List Stream) → Distinct l → Distinct (put t l)
distinct_put t [] d = tt
distinct_put t (x ∷ l) d =
    bool_case (λ b. eqb x.identifier t.identifier ≡ b → Distinct (when b then (t ∷ l) else (x ∷ put t l))) (eqb x.identifier t.identifier)
    (λ _ h. (subst (λ (n : ℕ). find n l ≡ none) (eqb-true x.identifier t.identifier h) d.0, d.1))
    (λ _ _. (find_none_put x.identifier t l d.0, distinct_put t l d.1)) refl

pub table_put : (room : Room) (k : Call) (id : ℕ) (l : List Stream) (t t' : Stream) → find id l ≡ some t → t.maximum ≡ t'.maximum → (Typed k → StreamFits t → StreamFits t') → Table room k l (put t' l)
table_put room k id l t t' e m f =
    record {
      fits = λ h a. each_put StreamFits t' l (f h (each_find StreamFits id l t e a)) a;
      sized = λ a. each_put Sized t' l (rw m at (each_find Sized id l t e a)) a;
      distinct = distinct_put t' l;
      within = λ h. rw (length_put t' l) h;
      still = λ i x q. find_some_put i t' l x q;
    }

-- ---- a stream is opened

find_snoc : (id : ℕ) (l : List Stream) (t x : Stream) → find id l ≡ some x → find id (l ++ (t ∷ [])) ≡ some x
find_snoc id [] t x e = let z : ◌≡◌ {A = ℕ} 0 1 = cc in absurd (omega arith)
find_snoc id (y ∷ l) t x e =
    bool_case (λ b. (when b then some y else find id l) ≡ some x → (when b then some y else find id (l ++ (t ∷ []))) ≡ some x) (eqb y.identifier id)
    (λ _ q. q) (λ _ q. find_snoc id l t x q) e

find_none_snoc : (id : ℕ) (l : List Stream) (t : Stream) → find id l ≡ none → eqb t.identifier id ≡ false → find id (l ++ (t ∷ [])) ≡ none
find_none_snoc id [] t e h = rw h refl
find_none_snoc id (y ∷ l) t e h =
    bool_case (λ b. (when b then some y else find id l) ≡ none → (when b then some y else find id (l ++ (t ∷ []))) ≡ none) (eqb y.identifier id)
    (λ _ q. q) (λ _ q. find_none_snoc id l t q h) e

distinct_snoc : (l : List Stream) (t : Stream) → Distinct l → find t.identifier l ≡ none → Distinct (l ++ (t ∷ []))
distinct_snoc [] t d e = (refl, tt)
distinct_snoc (x ∷ l) t d e =
    bool_case (λ b. eqb x.identifier t.identifier ≡ b → (when b then some x else find t.identifier l) ≡ none → Distinct ((x ∷ l) ++ (t ∷ []))) (eqb x.identifier t.identifier)
    (λ _ _ q. let z : ◌≡◌ {A = ℕ} 0 1 = cc in absurd (omega arith))
    (λ _ h q. (find_none_snoc x.identifier l t d.0 (ne_eqb t.identifier x.identifier (λ z. eqb-false x.identifier t.identifier h (sym z))), distinct_snoc l t d.1 q)) refl e

pub table_open : (room : Room) (k : Call) (id m : ℕ) (l : List Stream) → (Typed k → id < 2 ^ 16) → not (leb 1 m && leb m payload_max) ≡ false → find id l ≡ none
    → leb room.streams (length l) ≡ false → Table room k l (l ++ (opened id m ∷ []))
table_open room k id m l i h e n =
    let b : (leb 1 m && leb m payload_max) ≡ true = not-false (leb 1 m && leb m payload_max) h in
    record {
      fits = λ ty a. each_append StreamFits l (opened id m ∷ []) a (
        record {
          identifier = i ty;
          least = leb-true 1 m (and_l (leb 1 m) (leb m payload_max) b);
          most = leb-true m payload_max (and_r (leb 1 m) (leb m payload_max) b);
          reliability = record { kind = lit< tt; value = lit< tt };
          ssn = lit< tt;
          buffered = lit≤ tt;
          low = lit< tt;
          high = lit< tt;
          messages = lit≤ tt;
          bytes = lit≤ tt;
        },
        tt,
      );
      sized = λ a. each_append Sized l (opened id m ∷ []) a (leb-true 1 m (and_l (leb 1 m) (leb m payload_max) b), tt);
      distinct = λ d. distinct_snoc l (opened id m) d e;
      within = λ _. rw (length-append l (opened id m ∷ [])) (omega (arith, leb-false room.streams (length l) n));
      still = λ j x q. (x, find_snoc j l (opened id m) x q);
    }

-- ---- changes of one stream

pub delivering_fits : (u : Bool) (r : Reliability) (t : Stream) → ReliabilityFits r → StreamFits t → StreamFits (delivering u r t)
delivering_fits u r t h p =
    record { identifier = p.identifier; least = p.least; most = p.most; reliability = h; ssn = p.ssn; buffered = p.buffered; low = p.low; high = p.high; messages = p.messages; bytes = p.bytes }

pub thresholds_fit : (l h : ℕ) (t : Stream) → l < 2 ^ 64 → h < 2 ^ 64 → StreamFits t → StreamFits (thresholds l h t)
thresholds_fit l h t a b p =
    record { identifier = p.identifier; least = p.least; most = p.most; reliability = p.reliability; ssn = p.ssn; buffered = p.buffered; low = a; high = b; messages = p.messages; bytes = p.bytes }

accounted_fits : (n b : ℕ) (x : Statistics) (t : Stream) → n < ssns → b ≤ buffered_max → x.messages ≤ number_max → x.bytes ≤ number_max → StreamFits t → StreamFits (accounted n b x t)
accounted_fits n b x t h k m y p =
    record { identifier = p.identifier; least = p.least; most = p.most; reliability = p.reliability; ssn = h; buffered = k; low = p.low; high = p.high; messages = m; bytes = y }

reduced_less : (r : ℤ) (b : ℕ) → reduced r b ≤ b
reduced_less (pos n) b = omega arith
reduced_less (negsuc n) b = le_refl b

pub reduced_fits : (r : ℤ) (t : Stream) → StreamFits t → StreamFits (accounted t.ssn (reduced r t.buffered) t.statistics t)
reduced_fits r t p = accounted_fits t.ssn (reduced r t.buffered) t.statistics t p.ssn (le_trans (reduced_less r t.buffered) p.buffered) p.messages p.bytes p

saturated_most : (n : ℕ) → saturated n ≤ number_max
saturated_most n = if-case (λ (k : ℕ). k ≤ number_max) (leb n number_max) (λ e. leb-true n number_max e) (λ _. le_refl _)

abbrev StatisticsFit : Statistics → Type 0
StatisticsFit x = (x.messages ≤ number_max) × (x.bytes ≤ number_max)

counted_fits : (p len : ℕ) (x : Statistics) → StatisticsFit x → StatisticsFit (counted_by p len x)
counted_fits p zero x h = h
counted_fits p (suc l) x h =
    if-case StatisticsFit (eqb p 51 || eqb p 53) (λ _. (saturated_most (x.messages + 1), saturated_most (x.bytes + suc l)))
    (λ _. if-case StatisticsFit (eqb p 56 || eqb p 57) (λ _. (saturated_most (x.messages + 1), h.1)) (λ _. h))

ssn_after_lem : (b : Bool) (n : ℕ) → n < ssns → ssn_after b n < ssns
ssn_after_lem true n h = h
ssn_after_lem false n h = omega arith

pub written_fits : (p len : ℕ) (t : Stream) → t.buffered + len ≤ buffered_max → StreamFits t → StreamFits (written p len t)
written_fits p len t h f =
    let c = counted_fits p len t.statistics (f.messages, f.bytes) in
    accounted_fits (ssn_after (is_unordered p t) t.ssn) (t.buffered + len) (counted_by p len t.statistics) t (ssn_after_lem (is_unordered p t) t.ssn f.ssn) h c.0 c.1 f

pub dropped_fits : (t : Stream) → StreamFits t → StreamFits (accounted (ssn_before t.ssn) t.buffered t.statistics t)
dropped_fits t p = accounted_fits (ssn_before t.ssn) t.buffered t.statistics t (omega arith) p.buffered p.messages p.bytes p

-- the next SSN of a stream drops
pub table_drop : (room : Room) (k : Call) (id : ℕ) (l : List Stream) → Table room k l (drop_ssn (find id l) l)
table_drop room k id l = go (find id l) refl
  where
    go : (x : Option Stream) → find id l ≡ x → Table room k l (drop_ssn x l)
    go none e = table_same room k l
    go (some t) e = table_put room k id l t _ e refl (λ _. dropped_fits t)
