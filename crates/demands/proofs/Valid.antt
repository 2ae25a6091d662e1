-- The invariant: it holds of a fresh sender, and what each call does to the rings and the flight keeps it.
use Prim.Native.Nat.{ℕ, zero, suc, ◌+◌, ◌≤◌, ◌<◌}
use native.Mathlib.Nat.{le_refl, le_trans}
use native.Mathlib.Omega.{arith}
use mathlib.Core.Path.{◌≡◌, refl, sym, ap, subst, ◌∙◌}
use mathlib.Core.Logic.{◌≢◌, ◌⊎◌, inl, inr}
use mathlib.Core.Bool.{Bool, true, false, not, true≢false}
use mathlib.Core.Option.{Option, none, some}
use mathlib.Core.List.{List, [], ◌∷◌, ◌++◌, map, append-nil}
use lib.ListN.{length, get_elem?, length-append, length-map}
use lib.Dec.{eqb, leb}
use borrow.Author.Tests.{eqb-true, eqb-false, eq-eqb, ne_eqb, leb-false, leb-true}
use Rattle.limits.specs.Limits.{Room}
use Rattle.model.specs.declared.Chunk.{Chunk}
use Rattle.model.specs.declared.Message.{Message}
use Rattle.model.specs.State.{Lane, Unordered, Ordered, UnderWay, Idle, Sending, Sender, Pending, Numbers, fresh, with_pending, at, in_rings, with_ring, is_of}
use Rattle.model.specs.Lists.{when◌then◌else◌, keep, first, last, adjust}
use Rattle.model.specs.Records.{blank_message, blank_chunk}
use Rattle.model.specs.Messages.{cut, number_after}
use Rattle.model.specs.Rings.{lane_ahead, head_lane, head, begun, started, lowered, sent_at, under_way_after, pending_of, ended, without, compacted, marked, given_up, terminator, terminators}
use Rattle.demands.specs.Words.{Follows, behind, Each, number_of_head}
use Rattle.demands.specs.States.{Behind, Contiguous, Has}
use Rattle.demands.proofs.Basic.{if-case, bool_case}
use Rattle.demands.proofs.Each.{each_weaken, each_append, each_passing, each_get, each_last, each_has, keep_shorter, keep_none, none_kept, last_behind}
use Rattle.demands.proofs.Lists.{at_without}
use Rattle.demands.proofs.Fragments.{length_cut}
use Rattle.demands.proofs.Ring.{Ring, floor, floor_behind, number_follows, minus, ring_weaken, ring_append, ring_keep, cut_ring, omap, ring_remade, begun_number, begun_seen, lower, lower_number, map_lowered, On, ring_each, NotOf, none_of}

-- ---- fates

-- what has become of a message number; `over`: wholly sent, abandoned or expired, for good
pub data Fate : Type 0 where
  unused : Fate
  waits : Lane → Fate
  sending over : Fate

-- fates come in this order, and differ where it does
abbrev pub rank : Fate → ℕ
rank unused = 0
rank (waits l) = 1
rank sending = 2
rank over = 3

-- sending or over
abbrev pub Begun : Fate → Type 0
Begun x = 2 ≤ rank x

-- the fate of an entry in flight, which may be an ending one: its message is over, or it is under way and this is not its end
abbrev pub Flew : Fate → (ending : Bool) → Type 0
Flew x e = (x ≡ over) ⊎ ((x ≡ sending) × (e ≡ false))

pub flew_begun : {x : Fate} {e : Bool} → Flew x e → Begun x
flew_begun (inl q) = omega (arith, ap rank q)
flew_begun (inr q) = omega (arith, ap rank q.0)

-- ---- a table by number is changed at one

abbrev pub upd : {A : Type 0} → (ℕ → A) → ℕ → A → ℕ → A
upd f m x n = when eqb n m then x else f n

pub upd_same : {A : Type 0} (f : ℕ → A) (m n : ℕ) (x : A) → n ≡ m → upd f m x n ≡ x
upd_same f m n x e = rw (eq-eqb n m e)

pub upd_other : {A : Type 0} (f : ℕ → A) (m n : ℕ) (x : A) → n ≢ m → upd f m x n ≡ f n
upd_other f m n x h = rw (ne_eqb n m h)

flew_upd : (fate : ℕ → Fate) (m n : ℕ) (x : Fate) (e : Bool) → (n ≡ m → Flew x e) → Flew (fate n) e → Flew (upd fate m x n) e
flew_upd fate m n x e g h = if-case (λ (y : Fate). Flew y e) (eqb n m) (λ q. g (eqb-true n m q)) (λ _. h)

-- ---- lanes

abbrev pub other : Lane → Lane
other Unordered = Ordered
other Ordered = Unordered

pub both : (P : Lane → Type 0) (l : Lane) → P l → P (other l) → (k : Lane) → P k
both P Unordered a b Unordered = a
both P Unordered a b Ordered = b
both P Ordered a b Unordered = b
both P Ordered a b Ordered = a

pub waits≢other : (l : Lane) → waits (other l) ≢ waits l
waits≢other Unordered e = let z : ◌≡◌ {A = ℕ} 0 1 = cc in omega arith
waits≢other Ordered e = let z : ◌≡◌ {A = ℕ} 0 1 = cc in omega arith

-- the last sent fragment, for the ring whose message is under way
abbrev pub want : UnderWay → Chunk → Lane → Option Chunk
want Idle p l = none
want (Sending Unordered) p Unordered = some p
want (Sending Unordered) p Ordered = none
want (Sending Ordered) p Unordered = none
want (Sending Ordered) p Ordered = some p

pub want_own : (l : Lane) (p : Chunk) (b : Bool) → want (when b then Idle else Sending l) p l ≡ (when b then none else some p)
want_own Unordered p true = refl
want_own Unordered p false = refl
want_own Ordered p true = refl
want_own Ordered p false = refl

pub want_other : (l : Lane) (p : Chunk) (b : Bool) → want (when b then Idle else Sending l) p (other l) ≡ none
want_other Unordered p true = refl
want_other Unordered p false = refl
want_other Ordered p true = refl
want_other Ordered p false = refl

-- ---- the invariant

-- of a message that waits in a ring
abbrev pub Waiting : (ℕ → Fate) → (ℕ → Message) → Lane → Message → Type 0
Waiting fate sheet l x = (fate x.number ≡ waits l) × (x ≡ sheet x.number)

-- of a message that a start of lifetimes has seen
pub record Seen (sheet : ℕ → Message) (unstarted : ℕ) (x : Message) : Type 0 where
  pub filed : x ≡ sheet x.number
  pub below : x.number < unstarted

-- of an entry in flight
pub record Flown (fate : ℕ → Fate) (sheet : ℕ → Message) (unstarted : ℕ) (x : Message) (ending : Bool) : Type 0 where
  pub flew : Flew (fate x.number) ending
  pub seen : Seen sheet unstarted x

abbrev pub Entry : (ℕ → Fate) → (ℕ → Message) → (unstarted : ℕ) → Chunk → Type 0
Entry fate sheet k c = Flown fate sheet k c.message c.ending

-- of the last sent fragment of the message under way
pub record Last (fate : ℕ → Fate) (sheet : ℕ → Message) (unstarted : ℕ) (x : Message) : Type 0 where
  pub sends : fate x.number ≡ sending
  pub seen : Seen sheet unstarted x

abbrev pub If : UnderWay → Type 0 → Type 0
If Idle P = Unit {0}
If (Sending l) P = P

abbrev pub last_number : UnderWay → Chunk → Option ℕ
last_number Idle p = none
last_number (Sending l) p = some p.message.number

-- a place is left for the terminator of the message under way
abbrev pub FlightFits : Room → UnderWay → ℕ → Type 0
FlightFits room Idle n = n ≤ room.flight
FlightFits room (Sending l) n = suc n ≤ room.flight

-- of what is under way, the rings, the flight and the numbers
pub record Sound (room : Room) (w : UnderWay) (q : Lane → List Chunk) (f : List Chunk) (k : Numbers) : Type 0 where
  pub fate : ℕ → Fate
  -- what the chunks of a number share
  pub sheet : ℕ → Message
  -- the last sent fragment of the message under way
  pub last : Chunk
  pub unused_from : (n : ℕ) → k.next ≤ n → fate n ≡ unused
  pub last_sent : If w (Last fate sheet k.unstarted last.message)
  pub rings : (l : Lane) → Ring (Waiting fate sheet l) (want w last l) 0 (q l)
  pub flown : Each (Entry fate sheet k.unstarted) f
  pub chain : Contiguous (last_number w last) f
  pub ring_fits : (l : Lane) → length (q l) ≤ room.ring
  pub flight_fits : FlightFits room w (length f)

abbrev LastOf : {room : Room} {w : UnderWay} {q : Lane → List Chunk} {f : List Chunk} {k : Numbers} → Sound room w q f k → Type 0
LastOf {k = k} v = Last v.fate v.sheet k.unstarted v.last.message

abbrev pub Valid : Room → Sender → Type 0
Valid room s = Sound room s.pending.under_way (λ l. at l s.pending) s.flight.entries s.numbers

-- it is kept, and what was over stays over
pub record Step {room : Room} {w : UnderWay} {q : Lane → List Chunk} {f : List Chunk} {k : Numbers} (v : Sound room w q f k)
    (w' : UnderWay) (q' : Lane → List Chunk) (f' : List Chunk) (k' : Numbers) : Type 0 where
  pub ok : Sound room w' q' f' k'
  pub stays : (n : ℕ) → v.fate n ≡ over → ok.fate n ≡ over

-- .. and one message is over then
abbrev pub Ends : {room : Room} {w : UnderWay} {q : Lane → List Chunk} {f : List Chunk} {k : Numbers} → Sound room w q f k → ℕ → UnderWay → (Lane → List Chunk) → List Chunk → Numbers → Type 0
Ends v n w' q' f' k' = (s : Step v w' q' f' k') × (s.ok.fate n ≡ over)

-- the same, to rings as the state has them
abbrev pub StepTo : {room : Room} {w : UnderWay} {q : Lane → List Chunk} {f : List Chunk} {k : Numbers} → Sound room w q f k → Pending → List Chunk → Numbers → Type 0
StepTo v p = Step v p.under_way (λ l. at l p)

abbrev pub EndsTo : {room : Room} {w : UnderWay} {q : Lane → List Chunk} {f : List Chunk} {k : Numbers} → Sound room w q f k → ℕ → Pending → List Chunk → Numbers → Type 0
EndsTo v n p = Ends v n p.under_way (λ l. at l p)

-- .. and to a sender
abbrev pub StepIn : {room : Room} {w : UnderWay} {q : Lane → List Chunk} {f : List Chunk} {k : Numbers} → Sound room w q f k → Sender → Type 0
StepIn v s = StepTo v s.pending s.flight.entries s.numbers

abbrev pub EndsIn : {room : Room} {w : UnderWay} {q : Lane → List Chunk} {f : List Chunk} {k : Numbers} → Sound room w q f k → ℕ → Sender → Type 0
EndsIn v n s = EndsTo v n s.pending s.flight.entries s.numbers

pub valid_fresh : (room : Room) (t n : ℕ) → Valid room (fresh t n)
valid_fresh room t n =
    record {
      fate = λ _. unused;
      sheet = λ _. blank_message;
      last = blank_chunk;
      unused_from = λ _ _. refl;
      last_sent = tt;
      rings = both (λ l. Ring (Waiting (λ _. unused) (λ _. blank_message) l) none 0 (at l (fresh t n).pending)) Unordered tt tt;
      flown = tt;
      chain = tt;
      ring_fits = both (λ l. length (at l (fresh t n).pending) ≤ room.ring) Unordered (omega arith) (omega arith);
      flight_fits = omega arith;
    }

-- a number with a fate was given out
pub given_out : {room : Room} {w : UnderWay} {q : Lane → List Chunk} {f : List Chunk} {k : Numbers} (v : Sound room w q f k) (n : ℕ) → 1 ≤ rank (v.fate n) → n < k.next
given_out {k = k} v n h =
    bool_case (λ b. leb k.next n ≡ b → n < k.next) (leb k.next n)
    (λ _ e. absurd (omega (arith, ap rank (v.unused_from n (leb-true k.next n e))))) (λ _ e. leb-false k.next n e) refl

-- ---- the flight

-- an entry is changed, but not its message nor its place in it
pub record Like (c d : Chunk) : Type 0 where
  pub message : d.message ≡ c.message
  pub beginning : d.beginning ≡ c.beginning
  pub ending : d.ending ≡ c.ending

like_same : (c : Chunk) → Like c c
like_same c = record { message = refl; beginning = refl; ending = refl }

-- as acknowledging, marking for retransmission and giving up do
pub like_marked : (c : Chunk) (n : ℕ) (a b r : Bool) → Like c (marked n a b r c)
like_marked c n a b r = record { message = refl; beginning = refl; ending = refl }

pub data Alike : List Chunk → List Chunk → Type 0 where
  nil : Alike [] []
  cons : {c d : Chunk} {f g : List Chunk} → Like c d → Alike f g → Alike (c ∷ f) (d ∷ g)

alike_same : (f : List Chunk) → Alike f f
alike_same [] = nil
alike_same (c ∷ f) = cons (like_same c) (alike_same f)

pub alike_map : (h : Chunk → Chunk) → ((c : Chunk) → Like c (h c)) → (f : List Chunk) → Alike f (map h f)
alike_map h a [] = nil
alike_map h a (c ∷ f) = cons (a c) (alike_map h a f)

pub alike_adjust : (h : Chunk → Chunk) → ((c : Chunk) → Like c (h c)) → (i : ℕ) (f : List Chunk) → Alike f (adjust h i f)
alike_adjust h a i [] = nil
alike_adjust h a zero (c ∷ f) = cons (a c) (alike_same f)
alike_adjust h a (suc i) (c ∷ f) = cons (like_same c) (alike_adjust h a i f)

pub alike_length : {f g : List Chunk} → Alike f g → length g ≡ length f
alike_length nil = refl
alike_length (cons e a) = ap suc (alike_length a)

pub alike_each : (P : Message → Bool → Type 0) {f g : List Chunk} → Alike f g → Each (λ c. P c.message c.ending) f → Each (λ c. P c.message c.ending) g
alike_each P nil h = tt
alike_each P (cons {c} {d} e a) h =
    (subst (λ (b : Bool). P d.message b) (sym e.ending) (subst (λ (x : Message). P x c.ending) (sym e.message) h.0), alike_each P a h.1)

alike_behind : (w : Option ℕ) {c d : Chunk} {f g : List Chunk} → Like c d → Alike f g → Behind w c f → Behind w d g
alike_behind w {c} {d} e nil (inl h) = inl (e.ending ∙ h)
alike_behind w {c} {d} e nil (inr h) = inr (h ∙ ap (λ (x : Message). some x.number) (sym e.message))
alike_behind w {c} {d} e (cons {c = c'} {d = d'} {f} {g} e' a) h =
    subst (λ (b : Bool). when b then keep (is_of d.message.number) (d' ∷ g) ≡ [] else ((d'.message ≡ d.message) × (d'.beginning ≡ false))) (sym e.ending)
    (bool_case (λ b. (when b then keep (is_of c.message.number) (c' ∷ f) ≡ [] else ((c'.message ≡ c.message) × (c'.beginning ≡ false)))
    → (when b then keep (is_of d.message.number) (d' ∷ g) ≡ [] else ((d'.message ≡ d.message) × (d'.beginning ≡ false)))) c.ending
    (λ _ h. keep_none (is_of d.message.number) (d' ∷ g) (subst (λ (x : Message). Each (λ y. is_of x.number y ≡ false) (d' ∷ g)) (sym e.message)
    (alike_each (λ x _. eqb x.number c.message.number ≡ false) (cons e' a) (none_kept (is_of c.message.number) (c' ∷ f) h))))
    (λ _ h. (e'.message ∙ h.0 ∙ sym e.message, e'.beginning ∙ h.1)) h)

alike_chain : (w : Option ℕ) {f g : List Chunk} → Alike f g → Contiguous w f → Contiguous w g
alike_chain w nil h = tt
alike_chain w (cons e a) h = (alike_behind w e a h.0, alike_chain w a h.1)

-- how an entry d may come behind c, where w is under way
record Joins (w : Option ℕ) (d c : Chunk) : Type 0 where
  ended : c.ending ≡ true → is_of c.message.number d ≡ false
  next : w ≡ some c.message.number → (d.message ≡ c.message) × (d.beginning ≡ false)

chain_joined : (w w' : Option ℕ) (d : Chunk) (f : List Chunk) → Each (Joins w d) f → Behind w' d [] → Contiguous w f → Contiguous w' (f ++ (d ∷ []))
chain_joined w w' d [] j b h = (b, tt)
chain_joined w w' d (c ∷ []) j b h = (if-case (λ (T : Type 0). T) c.ending (λ e. rw (j.0.ended e)) (λ e. go e h.0), (b, tt))
  where
    go : c.ending ≡ false → (c.ending ≡ true) ⊎ (w ≡ some c.message.number) → (d.message ≡ c.message) × (d.beginning ≡ false)
    go e (inl q) = absurd (true≢false (sym q ∙ e))
    go e (inr q) = j.0.next q
chain_joined w w' d (c ∷ e ∷ f) j b h = (
  bool_case (λ t. c.ending ≡ t → (when t then keep (is_of c.message.number) (e ∷ f) ≡ [] else ((e.message ≡ c.message) × (e.beginning ≡ false)))
      → (when t then keep (is_of c.message.number) ((e ∷ f) ++ (d ∷ [])) ≡ [] else ((e.message ≡ c.message) × (e.beginning ≡ false)))) c.ending
      (λ _ q h. keep_none (is_of c.message.number) ((e ∷ f) ++ (d ∷ []))
      (each_append (λ y. is_of c.message.number y ≡ false) (e ∷ f) (d ∷ []) (none_kept (is_of c.message.number) (e ∷ f) h) (j.0.ended q, tt)))
      (λ _ _ h. h) refl h.0,
  chain_joined w w' d (e ∷ f) j.1 b h.1,
)

fits_less : (room : Room) (w : UnderWay) (n : ℕ) → FlightFits room w (suc n) → FlightFits room w n
fits_less room Idle n h = omega arith
fits_less room (Sending l) n h = omega arith

module _ {room : Room} {w : UnderWay} {q : Lane → List Chunk} {f : List Chunk} {k : Numbers} (v : Sound room w q f k) where
  -- the flight is g instead
  flight_is : (g : List Chunk) → Each (Entry v.fate v.sheet k.unstarted) g → Contiguous (last_number w v.last) g → FlightFits room w (length g) → Step v w q g k
  flight_is g a b d =
      record {
        ok = record {
          fate = v.fate;
          sheet = v.sheet;
          last = v.last;
          unused_from = v.unused_from;
          last_sent = v.last_sent;
          rings = v.rings;
          flown = a;
          chain = b;
          ring_fits = v.ring_fits;
          flight_fits = d;
        };
        stays = λ n e. e;
      }

  -- entries are marked
  pub flight_core : (g : List Chunk) → Alike f g → Step v w q g k
  flight_core g a =
      flight_is g (alike_each (Flown v.fate v.sheet k.unstarted) a v.flown) (alike_chain (last_number w v.last) a v.chain)
      (subst (FlightFits room w) (sym (alike_length a)) v.flight_fits)

  -- the oldest entry goes
  pub pop_core : (c : Chunk) (g : List Chunk) → f ≡ c ∷ g → Step v w q g k
  pop_core c g e =
      flight_is g (subst (Each (Entry v.fate v.sheet k.unstarted)) e v.flown).1 (subst (Contiguous (last_number w v.last)) e v.chain).1
      (fits_less room w (length g) (subst (λ (y : List Chunk). FlightFits room w (length y)) e v.flight_fits))

  -- d may come behind the entries: its message is not over, and it continues the one under way if there is one
  joins : (d : Chunk) → rank (v.fate d.message.number) ≤ 2 → d.message ≡ v.sheet d.message.number
      → ((n : ℕ) → last_number w v.last ≡ some n → (d.message.number ≡ n) × (d.beginning ≡ false))
      → (c : Chunk) → Entry v.fate v.sheet k.unstarted c → Joins (last_number w v.last) d c
  joins d h a b c z =
      record {
        ended = λ t. ne_eqb d.message.number c.message.number (λ y. go t y z.flew);
        next = λ y. let i = b c.message.number y in (a ∙ ap v.sheet i.0 ∙ sym z.seen.filed, i.1);
      }
    where
      go : c.ending ≡ true → d.message.number ≡ c.message.number → Flew (v.fate c.message.number) c.ending → ⊥
      go t y (inl e) = omega (arith, ap rank (ap v.fate y ∙ e))
      go t y (inr e) = true≢false (sym t ∙ e.1)

-- ---- the head

-- the ring of the message under way
pub own_ring : {room : Room} {l : Lane} {q : Lane → List Chunk} {f : List Chunk} {k : Numbers} (v : Sound room (Sending l) q f k) → Ring (Waiting v.fate v.sheet l) (some v.last) 0 (q l)
own_ring {l = l} {q} v = subst (λ (o : Option Chunk). Ring (Waiting v.fate v.sheet l) o 0 (q l)) (want_own l v.last false) (v.rings l)

-- its number is that of the last sent fragment
pub number_is_lem : {room : Room} {w : UnderWay} {q : Lane → List Chunk} {f : List Chunk} {k : Numbers} (v : Sound room w q f k)
    → number_of_head w (first (q (lane_ahead w (q Unordered)))) ≡ last_number w v.last
number_is_lem {w = Idle} v = refl
number_is_lem {w = Sending l} {q} v = go (q l) (own_ring v)
  where
    go : (x : List Chunk) → Ring (Waiting v.fate v.sheet l) (some v.last) 0 x → number_of_head (Sending l) (first x) ≡ some v.last.message.number
    go [] r = absurd r
    go (c ∷ x) r = ap some (number_follows r.0)

abbrev pub Fronts : UnderWay → Lane → Type 0
Fronts Idle l = Unit {0}
Fronts (Sending k) l = k ≡ l

-- the first fragment of a message that waits, with nothing under way
pub record Starts (w : UnderWay) (x : Fate) (l : Lane) (c : Chunk) : Type 0 where
  pub idle : w ≡ Idle
  pub beginning : c.beginning ≡ true
  pub waiting : x ≡ waits l

-- the next fragment of the message under way, p being the last sent one
pub record Continues (w : UnderWay) (x : Fate) (l : Lane) (p c : Chunk) : Type 0 where
  pub under_way : w ≡ Sending l
  pub follows : Follows p c
  pub sends : x ≡ sending

-- c is in front of the ring l, from which a send takes, and x is behind it
pub record Front {room : Room} {w : UnderWay} {q : Lane → List Chunk} {f : List Chunk} {k : Numbers} (v : Sound room w q f k) (l : Lane) (c : Chunk) (x : List Chunk) : Type 0 where
  pub kind : Starts w (v.fate c.message.number) l c ⊎ Continues w (v.fate c.message.number) l v.last c
  pub filed : c.message ≡ v.sheet c.message.number
  pub behind : Ring (Waiting v.fate v.sheet l) (behind c) (suc c.message.number) x
  pub beside : Ring (Waiting v.fate v.sheet (other l)) none 0 (q (other l))

front_at : {room : Room} {w : UnderWay} {q : Lane → List Chunk} {f : List Chunk} {k : Numbers} (v : Sound room w q f k) (l : Lane) (c : Chunk) (x : List Chunk)
    → Fronts w l → q l ≡ c ∷ x → Front v l c x
front_at {w = Idle} v l c x h e =
    let r : Ring (Waiting v.fate v.sheet l) none 0 (c ∷ x) = subst (Ring (Waiting v.fate v.sheet l) none 0) e (v.rings l) in
    record { kind = inl (record { idle = refl; beginning = r.0; waiting = r.1.0 }); filed = r.1.1; behind = r.3; beside = v.rings (other l) }
front_at {w = Sending k} {q} v l c x h e =
    let sheet : ℕ → Message = v.sheet in
    let own : want (Sending k) v.last l ≡ some v.last = ap (λ (j : Lane). want (Sending j) v.last l) h ∙ want_own l v.last false in
    let beside : want (Sending k) v.last (other l) ≡ none = ap (λ (j : Lane). want (Sending j) v.last (other l)) h ∙ want_other l v.last false in
    let r : Ring (Waiting v.fate sheet l) (some v.last) 0 (c ∷ x) =
    subst (λ (o : Option Chunk). Ring (Waiting v.fate sheet l) o 0 (c ∷ x)) own (subst (Ring (Waiting v.fate sheet l) (want (Sending k) v.last l) 0) e (v.rings l)) in
    record {
      kind = inr (record { under_way = ap Sending h; follows = r.0; sends = ap v.fate (number_follows r.0) ∙ v.last_sent.sends });
      filed = r.0.same_message ∙ v.last_sent.seen.filed ∙ ap sheet (sym (number_follows r.0));
      behind = r.1;
      beside = subst (λ (o : Option Chunk). Ring (Waiting v.fate sheet (other l)) o 0 (q (other l))) beside (v.rings (other l));
    }

head_fronts : (w : UnderWay) (u : List Chunk) → Fronts w (lane_ahead w u)
head_fronts Idle u = tt
head_fronts (Sending l) u = refl

-- what is known of the head
pub front : {room : Room} {w : UnderWay} {q : Lane → List Chunk} {f : List Chunk} {k : Numbers} (v : Sound room w q f k) (c : Chunk) → first (q (lane_ahead w (q Unordered))) ≡ some c
    → (x : List Chunk) × (q (lane_ahead w (q Unordered)) ≡ c ∷ x) × Front v (lane_ahead w (q Unordered)) c x
front {w = w} {q} v c e = go (q (lane_ahead w (q Unordered))) refl e
  where
    go : (y : List Chunk) → q (lane_ahead w (q Unordered)) ≡ y → first y ≡ some c → (x : List Chunk) × (q (lane_ahead w (q Unordered)) ≡ c ∷ x) × Front v (lane_ahead w (q Unordered)) c x
    go [] a e = let z : ◌≡◌ {A = ℕ} 0 1 = cc in absurd (omega arith)
    go (d ∷ x) a e =
        let b : q (lane_ahead w (q Unordered)) ≡ c ∷ x = cc in
        (x, b, front_at v (lane_ahead w (q Unordered)) c x (head_fronts w (q Unordered)) b)

module _ {room : Room} {w : UnderWay} {q : Lane → List Chunk} {f : List Chunk} {k : Numbers} (v : Sound room w q f k) (c : Chunk) (e : first (q (lane_ahead w (q Unordered))) ≡ some c) where
  -- a first fragment starts a message
  pub starts : c.beginning ≡ true → Starts w (v.fate c.message.number) (lane_ahead w (q Unordered)) c
  starts b = go (front v c e).2.kind
    where
      go : Starts w (v.fate c.message.number) (lane_ahead w (q Unordered)) c ⊎ Continues w (v.fate c.message.number) (lane_ahead w (q Unordered)) v.last c
          → Starts w (v.fate c.message.number) (lane_ahead w (q Unordered)) c
      go (inl a) = a
      go (inr a) = absurd (true≢false (sym b ∙ a.follows.not_first))

  -- another continues the one under way
  pub continues : c.beginning ≡ false → Continues w (v.fate c.message.number) (lane_ahead w (q Unordered)) v.last c
  continues b = go (front v c e).2.kind
    where
      go : Starts w (v.fate c.message.number) (lane_ahead w (q Unordered)) c ⊎ Continues w (v.fate c.message.number) (lane_ahead w (q Unordered)) v.last c
          → Continues w (v.fate c.message.number) (lane_ahead w (q Unordered)) v.last c
      go (inl a) = absurd (true≢false (sym a.beginning ∙ b))
      go (inr a) = a

  -- and the other way round
  pub free_begins : w ≡ Idle → c.beginning ≡ true
  free_begins i =
      bool_case (λ b. c.beginning ≡ b → b ≡ true) c.beginning (λ _ _. refl) (λ _ b. let a : w ≡ Sending (lane_ahead w (q Unordered)) = (continues b).under_way in cc) refl

  pub held_follows : (l : Lane) → w ≡ Sending l → Follows v.last c
  held_follows l i =
      bool_case (λ b. c.beginning ≡ b → Follows v.last c) c.beginning
      (λ _ b. let a : w ≡ Idle = (starts b).idle in let z : ◌≡◌ {A = ℕ} 0 1 = cc in absurd (omega arith)) (λ _ b. (continues b).follows) refl

-- ---- a send

-- what becomes of the message
abbrev pub fate_after : (ending : Bool) → Fate
fate_after e = when e then over else sending

module _ {room : Room} {w : UnderWay} {q : Lane → List Chunk} {f : List Chunk} {k : Numbers} (v : Sound room w q f k) (l : Lane) (c : Chunk) (x : List Chunk) (fr : Front v l c x) where
  abbrev m : ℕ
  m = c.message.number

  abbrev fate : ℕ → Fate
  fate = upd v.fate m (fate_after c.ending)

  was : (1 ≤ rank (v.fate m)) × (rank (v.fate m) ≤ 2)
  was = go fr.kind
    where
      go : Starts w (v.fate m) l c ⊎ Continues w (v.fate m) l v.last c → (1 ≤ rank (v.fate m)) × (rank (v.fate m) ≤ 2)
      go (inl s) = (omega (arith, ap rank s.waiting), omega (arith, ap rank s.waiting))
      go (inr s) = (omega (arith, ap rank s.sends), omega (arith, ap rank s.sends))

  pub not_beside : v.fate m ≢ waits (other l)
  not_beside e = go fr.kind
    where
      go : Starts w (v.fate m) l c ⊎ Continues w (v.fate m) l v.last c → ⊥
      go (inl s) = waits≢other l (sym e ∙ s.waiting)
      go (inr s) = omega (arith, ap rank e, ap rank s.sends)

  continued : (n : ℕ) → last_number w v.last ≡ some n → (m ≡ n) × (c.beginning ≡ false)
  continued n y = go fr.kind
    where
      go : Starts w (v.fate m) l c ⊎ Continues w (v.fate m) l v.last c → (m ≡ n) × (c.beginning ≡ false)
      go (inl s) = let z : ◌≡◌ {A = ℕ} 0 1 = cc (ap (λ (o : UnderWay). last_number o v.last) s.idle) in absurd (omega arith)
      go (inr s) =
          let z : v.last.message.number ≡ n = cc (ap (λ (o : UnderWay). last_number o v.last) s.under_way) in (number_follows s.follows ∙ z, s.follows.not_first)

  take_at : (now : ℕ) (q' : Lane → List Chunk) → q l ≡ c ∷ x → q' l ≡ x → q' (other l) ≡ q (other l) → k.next ≤ k.unstarted → suc (length f) < room.flight
      → Step v (under_way_after l c) q' (f ++ (sent_at now c ∷ [])) k
  take_at now q' whole own beside seen h =
      let low : m < k.unstarted = le_trans (given_out v m was.0) seen in
      record {
        ok = record {
          fate = fate;
          sheet = v.sheet;
          last = c;
          unused_from = λ n a. upd_other v.fate m n _ (λ e. omega (arith, ap rank (ap v.fate (sym e) ∙ v.unused_from n a), was.0)) ∙ v.unused_from n a;
          last_sent = bool_case (λ b. If (when b then Idle else Sending l) (Last (upd v.fate m (fate_after b)) v.sheet k.unstarted c.message)) c.ending (λ _. tt)
              (λ _. record { sends = upd_same v.fate m m sending refl; seen = record { filed = fr.filed; below = low } });
          rings = both (λ j. Ring (Waiting fate v.sheet j) (want (under_way_after l c) c j) 0 (q' j)) l
              (rw (own, want_own l c c.ending) (ring_weaken (behind c) (suc m) 0 x (omega arith)
              (λ y a z. (upd_other v.fate m y.number _ (λ e. omega (arith, floor_behind c)) ∙ z.0, z.1)) fr.behind))
              (rw (beside, want_other l c c.ending) (ring_weaken none 0 0 (q (other l)) (le_refl 0)
              (λ y a z. (upd_other v.fate m y.number _ (λ e. not_beside (ap v.fate (sym e) ∙ z.0)) ∙ z.0, z.1)) fr.beside));
          flown = each_append (Entry fate v.sheet k.unstarted) f (sent_at now c ∷ [])
              (each_weaken _ _ (λ d z. record {
                flew = flew_upd v.fate m d.message.number _ d.ending (λ e. later d.ending (subst (λ (n : ℕ). Flew (v.fate n) d.ending) e z.flew)) z.flew;
                seen = z.seen;
              }) f v.flown) (
                record {
                  flew = rw (upd_same v.fate m m (fate_after c.ending) refl) (bool_case (λ b. Flew (fate_after b) b) c.ending (λ _. inl refl) (λ _. inr (refl, refl)));
                  seen = record { filed = fr.filed; below = low };
                },
                tt,
              );
          chain = chain_joined (last_number w v.last) (last_number (under_way_after l c) c) (sent_at now c) f (each_weaken _ _ (joins v (sent_at now c) was.1 fr.filed continued) f v.flown)
              (bool_case (λ b. (b ≡ true) ⊎ (last_number (when b then Idle else Sending l) c ≡ some m)) c.ending (λ _. inl refl) (λ _. inr refl)) v.chain;
          ring_fits = both (λ j. length (q' j) ≤ room.ring) l (rw own (omega (arith, ap length whole, v.ring_fits l))) (rw beside (v.ring_fits (other l)));
          flight_fits = rw (length-append f (sent_at now c ∷ []))
              (bool_case (λ b. FlightFits room (when b then Idle else Sending l) (length f + 1)) c.ending (λ _. omega arith) (λ _. omega arith));
        };
        stays = λ n e. upd_other v.fate m n _ (λ a. omega (arith, ap rank (ap v.fate (sym a) ∙ e), was.1)) ∙ e;
      }
    where
      later : (e : Bool) → Flew (v.fate m) e → Flew (fate_after c.ending) e
      later e (inl z) = absurd (omega (arith, ap rank z, was.1))
      later e (inr z) = if-case (λ (y : Fate). Flew y e) c.ending (λ _. inl refl) (λ _. inr (refl, z.1))

-- the head goes to the flight
pub take_core : {room : Room} {f : List Chunk} {k : Numbers} (p : Pending) (v : Sound room p.under_way (λ l. at l p) f k) (c : Chunk) (x : List Chunk) (now : ℕ)
    → at (head_lane p) p ≡ c ∷ x → k.next ≤ k.unstarted → suc (length f) < room.flight
    → StepTo v (with_ring (head_lane p) (under_way_after (head_lane p) c) x p) (f ++ (sent_at now c ∷ [])) k
take_core {f = f} {k} p v c x now e seen h = go (head_lane p) (head_fronts p.under_way p.unordered) e
  where
    go : (l : Lane) → Fronts p.under_way l → at l p ≡ c ∷ x → StepTo v (with_ring l (under_way_after l c) x p) (f ++ (sent_at now c ∷ [])) k
    go Unordered a e = take_at v Unordered c x (front_at v Unordered c x a e) now (λ j. at j (with_ring Unordered (under_way_after Unordered c) x p)) e refl refl seen h
    go Ordered a e = take_at v Ordered c x (front_at v Ordered c x a e) now (λ j. at j (with_ring Ordered (under_way_after Ordered c) x p)) e refl refl seen h

-- ---- lifetimes start

pub if_map : {P Q : Type 0} (w : UnderWay) → (P → Q) → If w P → If w Q
if_map Idle f a = tt
if_map (Sending l) f a = f a

want_map : (h : Chunk → Chunk) (w : UnderWay) (p : Chunk) (l : Lane) → want w (h p) l ≡ omap h (want w p l)
want_map h Idle p l = refl
want_map h (Sending Unordered) p Unordered = refl
want_map h (Sending Unordered) p Ordered = refl
want_map h (Sending Ordered) p Unordered = refl
want_map h (Sending Ordered) p Ordered = refl

number_map : (h : Chunk → Chunk) (w : UnderWay) (p : Chunk) → (h p).message.number ≡ p.message.number → last_number w (h p) ≡ last_number w p
number_map h Idle p e = refl
number_map h (Sending l) p e = ap some e

start_at : {room : Room} {w : UnderWay} {q : Lane → List Chunk} {f : List Chunk} {k : Numbers} (v : Sound room w q f k) (now : ℕ) (q' : Lane → List Chunk)
    → ((l : Lane) → q' l ≡ map (started now k.unstarted) (q l)) → Step v w q' f (record { next = k.next; unstarted = k.next })
start_at {room} {w} {q} {f} {k} v now q' e =
    let u : ℕ = k.unstarted in
    let g : Message → Message = begun now u in
    let sheet : ℕ → Message = λ n. g (v.sheet n) in
    let files : (x : Message) → x ≡ v.sheet x.number → g x ≡ sheet (g x).number = λ x a. ap g a ∙ ap sheet (sym (begun_number now u x)) in
    record {
      ok = record {
        fate = v.fate;
        sheet = sheet;
        last = started now u v.last;
        unused_from = v.unused_from;
        last_sent = if_map {P = LastOf v} {Q = Last v.fate sheet k.next (g v.last.message)} w
            (λ z. record {
              sends = ap v.fate (begun_number now u v.last.message) ∙ z.sends;
              seen = record {
                filed = files v.last.message z.seen.filed;
                below = rw (begun_number now u v.last.message) (given_out v v.last.message.number (omega (arith, ap rank z.sends)));
              };
            }) v.last_sent;
        rings = λ l. rw (e l, want_map (started now u) w v.last l)
            (ring_remade g (begun_number now u) (Waiting v.fate v.sheet l) (Waiting v.fate sheet l)
            (λ x z. (ap v.fate (begun_number now u x) ∙ z.0, files x z.1)) (want w v.last l) 0 (q l) (v.rings l));
        flown = each_weaken _ _ (λ c z. record {
          flew = z.flew;
          seen = record { filed = sym (begun_seen now u c.message z.seen.below) ∙ ap g z.seen.filed; below = given_out v c.message.number (omega (arith, flew_begun z.flew)) };
        }) f v.flown;
        chain = subst (λ (o : Option ℕ). Contiguous o f) (sym (number_map (started now u) w v.last (begun_number now u v.last.message))) v.chain;
        ring_fits = λ l. rw (e l, length-map (q l) (started now u)) (v.ring_fits l);
        flight_fits = v.flight_fits;
      };
      stays = λ n a. a;
    }

at_rings : (h : List Chunk → List Chunk) (p : Pending) (l : Lane) → at l (in_rings h p) ≡ h (at l p)
at_rings h p Unordered = refl
at_rings h p Ordered = refl

pub start_core : {room : Room} {f : List Chunk} {k : Numbers} (p : Pending) (v : Sound room p.under_way (λ l. at l p) f k) (now : ℕ)
    → StepTo v (in_rings (map (started now k.unstarted)) p) f (record { next = k.next; unstarted = k.next })
start_core {k = k} p v now = start_at v now (λ l. at l (in_rings (map (started now k.unstarted)) p)) (at_rings (map (started now k.unstarted)) p)

-- ---- a message is written

want_floor : (w : UnderWay) (p : Chunk) (l : Lane) (n : ℕ) → If w (p.message.number < n) → floor (want w p l) 0 ≤ n
want_floor Idle p l n h = omega arith
want_floor (Sending Unordered) p Unordered n h = h
want_floor (Sending Unordered) p Ordered n h = omega arith
want_floor (Sending Ordered) p Unordered n h = omega arith
want_floor (Sending Ordered) p Ordered n h = h

module _ {room : Room} {w : UnderWay} {q : Lane → List Chunk} {f : List Chunk} {k : Numbers} (v : Sound room w q f k) (l : Lane) (x : Message) (n m off len : ℕ) (num : x.number ≡ k.next) where
  -- a number with a fate keeps it, and what its chunks share
  used : (i : ℕ) → 1 ≤ rank (v.fate i) → i ≢ k.next
  used i h e = omega (arith, given_out v i h)

  push_at : (q' : Lane → List Chunk) → q' l ≡ q l ++ cut x true n m off len → q' (other l) ≡ q (other l) → length (q l) + n ≤ room.ring
      → Step v w q' f (record { next = suc k.next; unstarted = k.unstarted })
  push_at q' own beside h =
      let fate : ℕ → Fate = upd v.fate k.next (waits l) in
      let sheet : ℕ → Message = upd v.sheet k.next x in
      let fated : (i : ℕ) → 1 ≤ rank (v.fate i) → fate i ≡ v.fate i = λ i a. upd_other v.fate k.next i (waits l) (used i a) in
      let filed : (y : Message) → 1 ≤ rank (v.fate y.number) → y ≡ v.sheet y.number → y ≡ sheet y.number =
      λ y a b. b ∙ sym (upd_other v.sheet k.next y.number x (used y.number a)) in
      let waiting : (j : Lane) (y : Message) → Waiting v.fate v.sheet j y → Waiting fate sheet j y =
      λ j y z. (fated y.number (omega (arith, ap rank z.0)) ∙ z.0, filed y (omega (arith, ap rank z.0)) z.1) in
      record {
        ok = record {
          fate = fate;
          sheet = sheet;
          last = v.last;
          unused_from = λ i a. upd_other v.fate k.next i (waits l) (λ e. omega arith) ∙ v.unused_from i (omega arith);
          last_sent = if_map {P = LastOf v} {Q = Last fate sheet k.unstarted v.last.message} w
              (λ z. record {
                sends = fated v.last.message.number (omega (arith, ap rank z.sends)) ∙ z.sends;
                seen = record { filed = filed v.last.message (omega (arith, ap rank z.sends)) z.seen.filed; below = z.seen.below };
              }) v.last_sent;
          rings = both (λ j. Ring (Waiting fate sheet j) (want w v.last j) 0 (q' j)) l
              (rw own (ring_append (want w v.last l) 0 k.next (q l) (cut x true n m off len)
              (λ y z. (given_out v y.number (omega (arith, ap rank z.0)), waiting l y z))
              (want_floor w v.last l k.next (if_map {P = LastOf v} w (λ z. given_out v v.last.message.number (omega (arith, ap rank z.sends))) v.last_sent)) (v.rings l)
              (subst (λ (i : ℕ). Ring (Waiting fate sheet l) none i (cut x true n m off len)) num
              (cut_ring (Waiting fate sheet l) x n m off len (upd_same v.fate k.next x.number (waits l) num, sym (upd_same v.sheet k.next x.number x num))))))
              (rw beside (ring_weaken (want w v.last (other l)) 0 0 (q (other l)) (le_refl 0) (λ y _. waiting (other l) y) (v.rings (other l))));
          flown = each_weaken _ _ (λ c z. record {
            flew = flew_upd v.fate k.next c.message.number (waits l) c.ending (λ e. absurd (used c.message.number (omega (arith, flew_begun z.flew)) e)) z.flew;
            seen = record { filed = filed c.message (omega (arith, flew_begun z.flew)) z.seen.filed; below = z.seen.below };
          }) f v.flown;
          chain = v.chain;
          ring_fits = both (λ j. length (q' j) ≤ room.ring) l (rw (own, length-append (q l) (cut x true n m off len), length_cut x true n m off len) h) (rw beside (v.ring_fits (other l)));
          flight_fits = v.flight_fits;
        };
        stays = λ i e. fated i (omega (arith, ap rank e)) ∙ e;
      }

same_ring : (l : Lane) (p : Pending) → with_ring l p.under_way (at l p ++ []) p ≡ p
same_ring Unordered p = ap (λ (x : List Chunk). record { under_way = p.under_way; unordered = x; ordered = p.ordered }) (append-nil p.unordered)
same_ring Ordered p = ap (λ (x : List Chunk). record { under_way = p.under_way; unordered = p.unordered; ordered = x }) (append-nil p.ordered)

-- a message's fragments join the back of a ring
pub push_core : {room : Room} {f : List Chunk} {k : Numbers} (p : Pending) (v : Sound room p.under_way (λ l. at l p) f k) (l : Lane) (x : Message) (n m off len : ℕ)
    → x.number ≡ k.next → length (at l p) + n ≤ room.ring → StepTo v (with_ring l p.under_way (at l p ++ cut x true n m off len) p) f (number_after n k)
push_core {f = f} {k} p v l x zero m off len num h = subst (λ (o : Pending). StepTo v o f k) (sym (same_ring l p)) (record { ok = v; stays = λ n e. e })
push_core p v Unordered x (suc n) m off len num h =
    push_at v Unordered x (suc n) m off len num (λ j. at j (with_ring Unordered p.under_way (p.unordered ++ cut x true (suc n) m off len) p)) refl refl h
push_core p v Ordered x (suc n) m off len num h =
    push_at v Ordered x (suc n) m off len num (λ j. at j (with_ring Ordered p.under_way (p.ordered ++ cut x true (suc n) m off len) p)) refl refl h

-- ---- a message leaves the rings

-- what is under way then
abbrev pub leave : ℕ → Chunk → UnderWay → UnderWay
leave n p Idle = Idle
leave n p (Sending l) = when is_of n p then Idle else Sending l

want_leave : (n : ℕ) (p : Chunk) (w : UnderWay) (l : Lane) → want (leave n p w) p l ≡ minus n (want w p l)
want_leave n p Idle = λ l. refl
want_leave n p (Sending k) =
    both (λ l. want (when is_of n p then Idle else Sending k) p l ≡ minus n (want (Sending k) p l)) k
    (want_own k p (is_of n p) ∙ sym (ap (minus n) (want_own k p false))) (want_other k p (is_of n p) ∙ sym (ap (minus n) (want_other k p false)))

pub ended_idle : (n : ℕ) (h : Option Chunk) → ended n h Idle ≡ Idle
ended_idle n none = refl
ended_idle n (some c) = if-case (λ (w : UnderWay). w ≡ Idle) (is_of n c) (λ _. refl) (λ _. refl)

-- the message under way is the head's
pub ended_is : {room : Room} {w : UnderWay} {q : Lane → List Chunk} {f : List Chunk} {k : Numbers} (v : Sound room w q f k) (n : ℕ)
    → ended n (first (q (lane_ahead w (q Unordered)))) w ≡ leave n v.last w
ended_is {w = Idle} {q} v n = ended_idle n (first (q (lane_ahead Idle (q Unordered))))
ended_is {w = Sending l} {q} v n = go (q l) (own_ring v)
  where
    go : (x : List Chunk) → Ring (Waiting v.fate v.sheet l) (some v.last) 0 x → ended n (first x) (Sending l) ≡ leave n v.last (Sending l)
    go [] r = absurd r
    go (c ∷ x) r = ap (λ (m : ℕ). when eqb m n then Idle else Sending l) (number_follows r.0)

module _ {room : Room} {w : UnderWay} {q : Lane → List Chunk} {f : List Chunk} {k : Numbers} (v : Sound room w q f k) (n : ℕ) where
  -- it is over, and the flight is g
  remove_at : 1 ≤ rank (v.fate n) → (q' : Lane → List Chunk) → ((l : Lane) → q' l ≡ keep (λ d. not (is_of n d)) (q l)) → (g : List Chunk)
      → Each (Entry (upd v.fate n over) v.sheet k.unstarted) g → Contiguous (last_number (leave n v.last w) v.last) g
      → FlightFits room (leave n v.last w) (length g) → Ends v n (leave n v.last w) q' g k
  remove_at h q' e g a b d =
      let fate : ℕ → Fate = upd v.fate n over in (
        record {
          ok = record {
            fate = fate;
            sheet = v.sheet;
            last = v.last;
            unused_from = λ i z. upd_other v.fate n i over (λ y. omega (arith, given_out v n h)) ∙ v.unused_from i z;
            last_sent = lasts w v.last_sent;
            rings = λ l. rw (e l, want_leave n v.last w l)
                (ring_keep {W = Waiting v.fate v.sheet l} {W' = Waiting fate v.sheet l} n
                (λ x y z. (upd_other v.fate n x.number over y ∙ z.0, z.1)) (want w v.last l) 0 (q l) (omega arith) (v.rings l));
            flown = a;
            chain = b;
            ring_fits = λ l. rw (e l) (le_trans (keep_shorter (λ d. not (is_of n d)) (q l)) (v.ring_fits l));
            flight_fits = d;
          };
          stays = λ i z. if-case (λ (y : Fate). y ≡ over) (eqb i n) (λ _. refl) (λ _. z);
        },
        upd_same v.fate n n over refl,
      )
    where
      lasts : (o : UnderWay) → If o (LastOf v) → If (leave n v.last o) (Last (upd v.fate n over) v.sheet k.unstarted v.last.message)
      lasts Idle z = tt
      lasts (Sending l) z =
          if-case (λ (o : UnderWay). If o (Last (upd v.fate n over) v.sheet k.unstarted v.last.message)) (is_of n v.last) (λ _. tt)
          (λ y. record { sends = upd_other v.fate n v.last.message.number over (eqb-false v.last.message.number n y) ∙ z.sends; seen = z.seen })

  -- what flies still does
  flown_over : Each (Entry (upd v.fate n over) v.sheet k.unstarted) f
  flown_over = each_weaken _ _ (λ c z. record { flew = flew_upd v.fate n c.message.number over c.ending (λ _. inl refl) z.flew; seen = z.seen }) f v.flown

-- ---- an unsent message expires

pub remove_core : {room : Room} {f : List Chunk} {k : Numbers} (p : Pending) (v : Sound room p.under_way (λ l. at l p) f k) (n : ℕ)
    → p.under_way ≡ Idle → 1 ≤ rank (v.fate n) → EndsTo v n (without n p) f k
remove_core {room} {f} {k} p v n e h =
    let same : leave n v.last p.under_way ≡ p.under_way = ap (leave n v.last) e ∙ sym e in
    subst (λ (o : UnderWay). Ends v n o (λ l. at l (without n p)) f k) (sym (ended_is v n))
    (remove_at v n h (λ l. at l (without n p)) (at_without n p) f (flown_over v n)
    (subst (λ (o : UnderWay). Contiguous (last_number o v.last) f) (sym same) v.chain) (subst (λ (o : UnderWay). FlightFits room o (length f)) (sym same) v.flight_fits))

-- the SSNs of ordered messages that wait drop
abbrev sheet_lowered : ℕ → Fate → Message → Message
sheet_lowered id unused x = x
sheet_lowered id (waits Unordered) x = x
sheet_lowered id (waits Ordered) x = lower id x
sheet_lowered id sending x = x
sheet_lowered id over x = x

lower_at : {room : Room} {w : UnderWay} {q : Lane → List Chunk} {f : List Chunk} {k : Numbers} (v : Sound room w q f k) (id : ℕ) (q' : Lane → List Chunk)
    → w ≡ Idle → q' Ordered ≡ map (lowered id) (q Ordered) → q' Unordered ≡ q Unordered → Step v w q' f k
lower_at {w = Sending l} v id q' idle e d = let z : ◌≡◌ {A = ℕ} 0 1 = cc in absurd (omega arith)
lower_at {room} {w = Idle} {q} {f} {k} v id q' idle e d =
    let sheet : ℕ → Message = λ n. sheet_lowered id (v.fate n) (v.sheet n) in
    record {
      ok = record {
        fate = v.fate;
        sheet = sheet;
        last = v.last;
        unused_from = v.unused_from;
        last_sent = tt;
        rings = both (λ l. Ring (Waiting v.fate sheet l) none 0 (q' l)) Ordered
            (rw (e, map_lowered id (q Ordered)) (ring_remade (lower id) (lower_number id) (Waiting v.fate v.sheet Ordered) (Waiting v.fate sheet Ordered)
            (λ x z. (
              ap v.fate (lower_number id x) ∙ z.0,
              ap (lower id) z.1 ∙ ap (λ (y : Fate). sheet_lowered id y (v.sheet x.number)) (sym z.0) ∙ ap sheet (sym (lower_number id x)),
            )) none 0 (q Ordered) (v.rings Ordered)))
            (rw d (ring_weaken none 0 0 (q Unordered) (le_refl 0) (λ x _ z. (z.0, z.1 ∙ ap (λ (y : Fate). sheet_lowered id y (v.sheet x.number)) (sym z.0))) (v.rings Unordered)));
        flown = each_weaken _ _ (λ c z. record {
          flew = z.flew;
          seen = record { filed = z.seen.filed ∙ stays (v.fate c.message.number) c.ending (v.sheet c.message.number) z.flew; below = z.seen.below };
        }) f v.flown;
        chain = v.chain;
        ring_fits = both (λ l. length (q' l) ≤ room.ring) Ordered (rw (e, length-map (q Ordered) (lowered id)) (v.ring_fits Ordered)) (rw d (v.ring_fits Unordered));
        flight_fits = v.flight_fits;
      };
      stays = λ n z. z;
    }
  where
    stays : (y : Fate) (b : Bool) (x : Message) → Flew y b → x ≡ sheet_lowered id y x
    stays y b x (inl z) = ap (λ (y : Fate). sheet_lowered id y x) (sym z)
    stays y b x (inr z) = ap (λ (y : Fate). sheet_lowered id y x) (sym z.0)

-- the head, a first fragment: its message goes, and if it is ordered its stream's SSNs drop
pub expire_core : {room : Room} (s : Sender) (v : Valid room s) (c : Chunk) → head s.pending ≡ some c → c.beginning ≡ true → (u : Bool) (id : ℕ)
    → EndsIn v c.message.number (compacted u id (with_pending (without c.message.number s.pending) s))
expire_core s v c e b u id = go u
  where
    n : ℕ
    n = c.message.number

    p : Pending
    p = without n s.pending

    a : Starts s.pending.under_way (v.fate n) (head_lane s.pending) c
    a = starts v c e b

    gone : EndsTo v n p s.flight.entries s.numbers
    gone = remove_core s.pending v n a.idle (omega (arith, ap rank a.waiting))

    go : (u : Bool) → EndsIn v n (compacted u id (with_pending p s))
    go true = gone
    go false =
        let idle : p.under_way ≡ Idle = ap (ended n (head s.pending)) a.idle ∙ ended_idle n (head s.pending) in
        let t = lower_at gone.0.ok id (λ l. at l (with_ring Ordered p.under_way (map (lowered id) p.ordered) p)) idle refl refl in
        (record { ok = t.ok; stays = λ m z. t.stays m (gone.0.stays m z) }, t.stays n gone.1)

-- ---- what a number's fate says of the rings

pub want_on : (Q : Message → Type 0) (w : UnderWay) (p : Chunk) (l : Lane) → If w (Q p.message) → On Q (want w p l)
want_on Q Idle p l h = tt
want_on Q (Sending Unordered) p Unordered h = h
want_on Q (Sending Unordered) p Ordered h = tt
want_on Q (Sending Ordered) p Unordered h = tt
want_on Q (Sending Ordered) p Ordered h = h

-- p is not of n
pub not_want : (w : UnderWay) (p : Chunk) (n : ℕ) (l : Lane) → last_number w p ≢ some n → NotOf n (want w p l)
not_want w p n l h = want_on (λ x. eqb x.number n ≡ false) w p l (go w h)
  where
    go : (w : UnderWay) → last_number w p ≢ some n → If w (eqb p.message.number n ≡ false)
    go Idle h = tt
    go (Sending l) h = ne_eqb p.message.number n (λ e. h (ap some e))

module _ {room : Room} {w : UnderWay} {q : Lane → List Chunk} {f : List Chunk} {k : Numbers} (v : Sound room w q f k) where
  -- the pending chunks of a number share what its sheet says
  pub sheets : (l : Lane) → Each (λ c. c.message ≡ v.sheet c.message.number) (q l)
  sheets l =
      ring_each {W = Waiting v.fate v.sheet l} {Q = λ x. x ≡ v.sheet x.number} (λ x z. z.1) (want w v.last l) 0 (q l)
      (want_on (λ x. x ≡ v.sheet x.number) w v.last l (if_map {P = LastOf v} w (λ z. z.seen.filed) v.last_sent)) (v.rings l)

  -- .. and their number was given out
  pub numbered : (l : Lane) → Each (λ c. c.message.number < k.next) (q l)
  numbered l =
      ring_each {W = Waiting v.fate v.sheet l} {Q = λ x. x.number < k.next} (λ x z. given_out v x.number (omega (arith, ap rank z.0))) (want w v.last l) 0 (q l)
      (want_on (λ x. x.number < k.next) w v.last l (if_map {P = LastOf v} w (λ z. given_out v v.last.message.number (omega (arith, ap rank z.sends))) v.last_sent)) (v.rings l)

  -- a message that has begun is pending only if it is the one under way
  pub none_pending : (n : ℕ) → Begun (v.fate n) → last_number w v.last ≢ some n → (l : Lane) → keep (is_of n) (q l) ≡ []
  none_pending n h a l =
      none_of {W = Waiting v.fate v.sheet l} n (λ x z e. omega (arith, ap rank (ap v.fate (sym e) ∙ z.0))) (want w v.last l) 0 (q l)
      (not_want w v.last n l a) (v.rings l)

  -- one that is over is not pending
  pub over_nothing : (n : ℕ) → v.fate n ≡ over → (l : Lane) → keep (is_of n) (q l) ≡ []
  over_nothing n h = none_pending n (omega (arith, ap rank h)) (go w v.last_sent)
    where
      go : (w : UnderWay) → If w (LastOf v) → last_number w v.last ≢ some n
      go Idle a e = let z : ◌≡◌ {A = ℕ} 0 1 = cc in omega arith
      go (Sending l) a e = let z : v.last.message.number ≡ n = cc in omega (arith, ap rank h, ap rank (ap v.fate (sym z) ∙ a.sends))

  -- each entry in flight has begun
  pub in_flight_lem : (i : ℕ) (c : Chunk) → get_elem? f i ≡ some c → Entry v.fate v.sheet k.unstarted c
  in_flight_lem i c e = each_get (Entry v.fate v.sheet k.unstarted) f i c e v.flown

  pub flies_begun : (n : ℕ) → Has n f → Begun (v.fate n)
  flies_begun n h =
      let z = each_has (Entry v.fate v.sheet k.unstarted) (is_of n) f h v.flown in
      subst (λ (m : ℕ). Begun (v.fate m)) (eqb-true z.0.message.number n z.2) (flew_begun z.1.flew)

-- ---- a message is abandoned

like_given_up : (n : ℕ) (c : Chunk) → Like c (given_up n c)
like_given_up n c = if-case (Like c) (is_of n c) (λ _. like_marked c 0 c.acked true false) (λ _. like_same c)

abbrev unsent : ℕ → (Lane → List Chunk) → List Chunk
unsent n q = keep (is_of n) (q Ordered) ++ keep (is_of n) (q Unordered)

abbrev given_up_all : ℕ → (Lane → List Chunk) → List Chunk → List Chunk
given_up_all n q f = map (given_up n) f ++ terminators (last (unsent n q))

module _ {room : Room} {w : UnderWay} {q : Lane → List Chunk} {f : List Chunk} {k : Numbers} (v : Sound room w q f k) (n : ℕ) (h : Begun (v.fate n))
    (q' : Lane → List Chunk) (e : (l : Lane) → q' l ≡ keep (λ d. not (is_of n d)) (q l)) where
  marks : Alike f (map (given_up n) f)
  marks = alike_map (given_up n) (like_given_up n) f

  flown_marked : Each (Entry (upd v.fate n over) v.sheet k.unstarted) (map (given_up n) f)
  flown_marked = alike_each (Flown (upd v.fate n over) v.sheet k.unstarted) marks (flown_over v n)

  -- one that is not under way: nothing of it is pending
  abandon_sent : last_number w v.last ≢ some n → leave n v.last w ≡ w → Ends v n (leave n v.last w) q' (given_up_all n q f) k
  abandon_sent a same =
      let gone : given_up_all n q f ≡ map (given_up n) f = rw (none_pending v n h a Ordered, none_pending v n h a Unordered) (append-nil (map (given_up n) f)) in
      subst (λ (g : List Chunk). Ends v n (leave n v.last w) q' g k) (sym gone)
      (remove_at v n (omega arith) q' e (map (given_up n) f) flown_marked
      (subst (λ (o : UnderWay). Contiguous (last_number o v.last) (map (given_up n) f)) (sym same) (alike_chain (last_number w v.last) marks v.chain))
      (subst (λ (o : UnderWay). FlightFits room o (length (map (given_up n) f))) (sym same) (subst (FlightFits room w) (sym (alike_length marks)) v.flight_fits)))

  -- the one under way: its last pending chunk makes the terminator
  abandon_tail : (l : Lane) → w ≡ Sending l → v.last.message.number ≡ n → Ends v n (leave n v.last w) q' (given_up_all n q f) k
  abandon_tail l way num =
      let tail : (d : Chunk) × (last (unsent n q) ≡ some d) = some_unsent in
      let d : Chunk = tail.0 in
      let Filed : Chunk → Type 0 = λ c. c.message ≡ v.sheet c.message.number in
      let of : Filed d × (is_of n d ≡ true) =
      each_last (λ c. Filed c × (is_of n c ≡ true)) (unsent n q) d tail.1
      (each_append (λ c. Filed c × (is_of n c ≡ true)) (keep (is_of n) (q Ordered)) (keep (is_of n) (q Unordered))
      (each_passing Filed (is_of n) (q Ordered) (sheets v Ordered)) (each_passing Filed (is_of n) (q Unordered) (sheets v Unordered))) in
      let is : d.message.number ≡ n = eqb-true d.message.number n of.1 in
      subst (λ (o : Option Chunk). Ends v n (leave n v.last w) q' (map (given_up n) f ++ terminators o) k) (sym tail.1)
      (remove_at v n (omega arith) q' e (map (given_up n) f ++ (terminator d ∷ []))
      (each_append (Entry (upd v.fate n over) v.sheet k.unstarted) (map (given_up n) f) (terminator d ∷ []) flown_marked
      (record { flew = inl (upd_same v.fate n d.message.number over is); seen = record { filed = of.0; below = omega (arith, sent.seen.below) } }, tt))
      (chain_joined (last_number w v.last) (last_number (leave n v.last w) v.last) (terminator d) (map (given_up n) f)
      (each_weaken _ _ (joins v (terminator d) (omega (arith, ap rank (ap v.fate is ∙ sends))) of.0 (λ i y. (is ∙ under i y, refl))) (map (given_up n) f)
      (alike_each (Flown v.fate v.sheet k.unstarted) marks v.flown)) (inl refl) (alike_chain (last_number w v.last) marks v.chain))
      (subst (λ (o : UnderWay). FlightFits room o (length (map (given_up n) f ++ (terminator d ∷ [])))) (sym idle)
      (rw (length-append (map (given_up n) f) (terminator d ∷ []), alike_length marks) (omega (arith, fits)))))
    where
      sent : LastOf v
      sent = subst (λ (o : UnderWay). If o (LastOf v)) way v.last_sent

      fits : suc (length f) ≤ room.flight
      fits = subst (λ (o : UnderWay). FlightFits room o (length f)) way v.flight_fits

      idle : leave n v.last w ≡ Idle
      idle = ap (leave n v.last) way ∙ ap (λ (b : Bool). when b then Idle else Sending l) (eq-eqb v.last.message.number n num)

      sends : v.fate n ≡ sending
      sends = ap v.fate (sym num) ∙ sent.sends

      under : (i : ℕ) → last_number w v.last ≡ some i → n ≡ i
      under i y = cc (ap (λ (o : UnderWay). last_number o v.last) way)

      some_unsent : (d : Chunk) × (last (unsent n q) ≡ some d)
      some_unsent = go l (subst (λ (o : UnderWay). Ring (Waiting v.fate v.sheet l) (want o v.last l) 0 (q l)) way (v.rings l))
        where
          leads : (l : Lane) (x : List Chunk) → Ring (Waiting v.fate v.sheet l) (some v.last) 0 x → (c : Chunk) × (y : List Chunk) × (keep (is_of n) x ≡ c ∷ y)
          leads l [] r = absurd r
          leads l (c ∷ x) r = (c, keep (is_of n) x, rw (eq-eqb c.message.number n (number_follows r.0 ∙ num)))

          go : (l : Lane) → Ring (Waiting v.fate v.sheet l) (want (Sending l) v.last l) 0 (q l) → (d : Chunk) × (last (unsent n q) ≡ some d)
          go Ordered r = let z = leads Ordered (q Ordered) r in rw z.2 (last_behind [] (z.1 ++ keep (is_of n) (q Unordered)) z.0)
          go Unordered r = let z = leads Unordered (q Unordered) r in rw z.2 (last_behind (keep (is_of n) (q Ordered)) z.1 z.0)

pub abandon_core : {room : Room} {f : List Chunk} {k : Numbers} (p : Pending) (v : Sound room p.under_way (λ l. at l p) f k) (n : ℕ) → Begun (v.fate n)
    → EndsTo v n (without n p) (map (given_up n) f ++ terminators (last (pending_of n p))) k
abandon_core {f = f} {k} p v n h = subst Goal (sym (ended_is v n)) (go p.under_way refl)
  where
    Goal : UnderWay → Type 0
    Goal o = Ends v n o (λ l. at l (without n p)) (map (given_up n) f ++ terminators (last (pending_of n p))) k

    sent : last_number p.under_way v.last ≢ some n → leave n v.last p.under_way ≡ p.under_way → Goal (leave n v.last p.under_way)
    sent = abandon_sent v n h (λ l. at l (without n p)) (at_without n p)

    go : (o : UnderWay) → p.under_way ≡ o → Goal (leave n v.last p.under_way)
    go Idle e = sent (λ a. let z : ◌≡◌ {A = ℕ} 0 1 = cc (ap (λ (o : UnderWay). last_number o v.last) e) in omega arith) (ap (leave n v.last) e ∙ sym e)
    go (Sending l) e =
        bool_case (λ b. is_of n v.last ≡ b → Goal (leave n v.last p.under_way)) (is_of n v.last)
        (λ _ a. abandon_tail v n h (λ l. at l (without n p)) (at_without n p) l e (eqb-true v.last.message.number n a))
        (λ _ a. sent
        (λ b. let z : v.last.message.number ≡ n = cc (ap (λ (o : UnderWay). last_number o v.last) e) in eqb-false v.last.message.number n a z)
        (ap (leave n v.last) e ∙ ap (λ (b : Bool). when b then Idle else Sending l) a ∙ sym e)) refl
