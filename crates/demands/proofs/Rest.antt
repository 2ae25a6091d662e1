-- What is left of the message under way: a call that does not abandon it yields its next fragment, or leaves the rest as it is.
use Prim.Native.Nat.{ℕ, suc}
use native.Mathlib.Omega.{arith}
use mathlib.Core.Path.{◌≡◌, refl, sym, ap, subst, ◌∙◌}
use mathlib.Core.Logic.{◌≢◌}
use mathlib.Core.Bool.{Bool, true, false, ◌&&◌, true≢false}
use mathlib.Core.Option.{Option, none, some}
use mathlib.Core.List.{List, [], ◌∷◌, ◌++◌, map, map-append}
use lib.Dec.{eqb, leb}
use borrow.Author.Tests.{ne_eqb}
use Rattle.limits.specs.Limits.{Room}
use Rattle.model.specs.declared.Chunk.{Chunk}
use Rattle.model.specs.declared.Message.{Message}
use Rattle.model.specs.State.{Lane, Unordered, Ordered, UnderWay, Idle, Sending, Sender, Pending, Numbers, Out, at, in_rings, with_ring, lane_of, is_of}
use Rattle.model.specs.Lists.{when◌then◌else◌, keep, first}
use Rattle.model.specs.Messages.{fragments, is_unordered}
use Rattle.model.specs.Rings.{lane_ahead, head_lane, started, with_lifetimes, under_way_after, send, without, overdue}
use Rattle.model.specs.Calls.{Call, Send, Answer, step, yielded, yields_of}
use Rattle.demands.specs.Words.{bare, behind, Remaining, Agree, Each, up_to_end, rest_in, rest, abandons, Unabandoned}
use Rattle.demands.proofs.Basic.{if-case, bool_case, and_l}
use Rattle.demands.proofs.Each.{each_parts}
use Rattle.demands.proofs.Lists.{at_ring, at_both, not_of, at_without}
use Rattle.demands.proofs.Views.{Does, does, streams_only, writes, starts, sends, abandons_it, expires_tail, expires_whole, acks, pops, marks, send_yields}
use Rattle.demands.proofs.Ring.{Ring, number_follows, ring_rest, remaining_bare, bare_started, On}
use Rattle.demands.proofs.Valid.{Valid, Sound, Waiting, last_number, own_ring, front, held_follows, leave, ended_is, start_core}
use Rattle.demands.proofs.Steps.{keeps}
use Rattle.std.specs.Prelude.{Some, Ok}

-- ---- up to the end

-- what comes up to the end behind c, by the test that says what must come behind it
behind_case : (P : Option Chunk → Type 0) (c : Chunk) (l r : List Chunk) → P (behind c) → (P (some c) → l ≡ r)
    → ◌≡◌ {A = List Chunk} (when c.ending then [] else l) (when c.ending then [] else r)
behind_case P c l r x f =
    bool_case (λ b. P (when b then none else some c) → ◌≡◌ {A = List Chunk} (when b then [] else l) (when b then [] else r)) c.ending (λ _ _. refl) (λ _ x. f x) x

module _ (W : Message → Type 0) where
  end_append : (p : Chunk) (k : ℕ) (l x : List Chunk) → Ring W (some p) k l → up_to_end (l ++ x) ≡ up_to_end l
  end_append p k [] x r = absurd r
  end_append p k (c ∷ l) x r =
      ap (λ (y : List Chunk). c ∷ y) (behind_case (λ w. Ring W w (suc c.message.number) l) c (up_to_end (l ++ x)) (up_to_end l) r.1 (end_append c _ l x))

  end_keep : (n : ℕ) (p : Chunk) (k : ℕ) (l : List Chunk) → is_of n p ≡ false → Ring W (some p) k l → up_to_end (keep (not_of n) l) ≡ up_to_end l
  end_keep n p k [] h r = absurd r
  end_keep n p k (c ∷ l) h r =
      let e : is_of n c ≡ false = ap (λ (m : ℕ). eqb m n) (number_follows r.0) ∙ h in
      rw e (ap (λ (y : List Chunk). c ∷ y) (behind_case (λ w. Ring W w (suc c.message.number) l) c (up_to_end (keep (not_of n) l)) (up_to_end l) r.1 (end_keep n c _ l e)))

end_started : (now k : ℕ) (l : List Chunk) → map bare (up_to_end (map (started now k) l)) ≡ map bare (up_to_end l)
end_started now k [] = refl
end_started now k (c ∷ l) =
    let tail : map bare (when c.ending then [] else up_to_end (map (started now k) l)) ≡ map bare (when c.ending then [] else up_to_end l) =
    bool_case (λ b. map bare (when b then [] else up_to_end (map (started now k) l)) ≡ map bare (when b then [] else up_to_end l)) c.ending (λ _. refl) (λ _. end_started now k l) in
    λ i. bare_started now k c i ∷ tail i

-- ---- the rest

-- without what a start of lifetimes gives it
abbrev pub left : Pending → List Chunk
left p = map bare (rest p)

ring_way : (j : Lane) (w : UnderWay) (x : List Chunk) (p : Pending) → (with_ring j w x p).under_way ≡ w
ring_way Unordered w x p = refl
ring_way Ordered w x p = refl

ring_own : (j : Lane) (w : UnderWay) (x : List Chunk) (p : Pending) → at j (with_ring j w x p) ≡ x
ring_own Unordered w x p = refl
ring_own Ordered w x p = refl

-- a write leaves it
pub rest_pushed : {room : Room} {f : List Chunk} {k : Numbers} (w w' : UnderWay) (p : Pending) → Sound room w (λ l. at l p) f k → (j : Lane) (x : List Chunk)
    → rest_in w (with_ring j w' (at j p ++ x) p) ≡ rest_in w p
rest_pushed Idle w' p v j x = refl
rest_pushed (Sending l) w' p v j x =
    at_ring (λ i y. l ≡ i → up_to_end y ≡ up_to_end (at i p)) j w' (at j p ++ x) p
    (λ e. end_append (Waiting v.fate v.sheet j) v.last 0 (at j p) x (subst (λ (i : Lane). Ring (Waiting v.fate v.sheet i) (some v.last) 0 (at i p)) e (own_ring v)))
    (λ i _. refl) l refl

-- a start of lifetimes does
pub rest_started : (now k : ℕ) (w : UnderWay) (p : Pending) → map bare (rest_in w (in_rings (map (started now k)) p)) ≡ map bare (rest_in w p)
rest_started now k Idle p = refl
rest_started now k (Sending l) p = at_both (λ i y. map bare (up_to_end y) ≡ map bare (up_to_end (at i p))) (map (started now k)) p (λ i. end_started now k (at i p)) l

-- another message's removal does
pub rest_without : {room : Room} {f : List Chunk} {k : Numbers} (w : UnderWay) (p : Pending) (v : Sound room w (λ l. at l p) f k) (n : ℕ) → last_number w v.last ≢ some n
    → rest_in (leave n v.last w) (without n p) ≡ rest_in w p
rest_without Idle p v n h = refl
rest_without (Sending l) p v n h =
    let e : is_of n v.last ≡ false = ne_eqb v.last.message.number n (λ q. h (ap some q)) in
    rw (e, at_without n p l) (end_keep (Waiting v.fate v.sheet l) n v.last 0 (at l p) e (own_ring v))

-- a send takes the first of it
front_rest : (j : Lane) (c : Chunk) (x : List Chunk) (p : Pending) → rest (with_ring j (under_way_after j c) x p) ≡ (when c.ending then [] else up_to_end x)
front_rest j c x p = rw (ring_way j (under_way_after j c) x p) (go c.ending (under_way_after j c))
  where
    go : (b : Bool) (w : UnderWay) → rest_in (when b then Idle else Sending j) (with_ring j w x p) ≡ (when b then [] else up_to_end x)
    go true w = refl
    go false w = ap up_to_end (ring_own j w x p)

-- ---- one call

abbrev pub Of : (number : ℕ) → Chunk → Type 0
Of n c = c.message.number ≡ n

-- the chunk that was last sent is of the rest's message
last_of : (W : Message → Type 0) (p : Chunk) (k n : ℕ) (x : List Chunk) → Ring W (some p) k x → Each (Of n) (map bare (up_to_end x)) → p.message.number ≡ n
last_of W p k n [] r a = absurd r
last_of W p k n (c ∷ x) r a = sym (number_follows r.0) ∙ a.0

-- an abandoned message is another
other_number : {room : Room} {f : List Chunk} {k : Numbers} (w : UnderWay) (p : Pending) (v : Sound room w (λ l. at l p) f k) (n m : ℕ) → Each (Of n) (map bare (rest_in w p)) → m ≢ n
    → last_number w v.last ≢ some m
other_number Idle p v n m a h e = let z : ◌≡◌ {A = ℕ} 0 1 = cc in omega arith
other_number (Sending l) p v n m a h e =
    let q : v.last.message.number ≡ m = cc in h (sym q ∙ last_of (Waiting v.fate v.sheet l) v.last 0 n (at l p) (own_ring v) a)

module _ {room : Room} (s : Sender) (v : Valid room s) where
  removed : (n m : ℕ) → Each (Of n) (left s.pending) → m ≢ n → left (without m s.pending) ≡ left s.pending
  removed n m a h =
      let p : Pending = s.pending in
      ap (λ (w : UnderWay). map bare (rest_in w (without m p))) (ended_is v m) ∙ ap (map bare) (rest_without p.under_way p v m (other_number p.under_way p v n m a h))

  taken_rest : (l : Lane) → s.pending.under_way ≡ Sending l → (now : ℕ) (c : Chunk) (x : List Chunk) → let p : Pending = (with_lifetimes now s).pending in
      at (head_lane p) p ≡ c ∷ x → bare c ∷ left (with_ring (head_lane p) (under_way_after (head_lane p) c) x p) ≡ left s.pending
  taken_rest l e now c x h =
      let p : Pending = (with_lifetimes now s).pending in
      let j : head_lane p ≡ l = ap (λ (w : UnderWay). lane_ahead w p.unordered) e in
      let z : at l p ≡ c ∷ x = subst (λ (i : Lane). at i p ≡ c ∷ x) j h in
      ap (λ (y : List Chunk). bare c ∷ map bare y) (front_rest (head_lane p) c x p) ∙ ap (λ (y : List Chunk). map bare (up_to_end y)) (sym z)
      ∙ ap (λ (w : UnderWay). map bare (rest_in w p)) (sym e) ∙ rest_started now s.numbers.unstarted s.pending.under_way s.pending

  pub rest_step : (l : Lane) → s.pending.under_way ≡ Sending l → (n : ℕ) → Each (Of n) (left s.pending) → (k : Call) → abandons k s ≢ some n
      → map bare (yielded (step room k s).says) ++ left (step room k s).after.pending ≡ left s.pending
  rest_step l e n i k = go _ _ _ _ (does room k s)
    where
      go : (r : Out Answer) (a x : Option ℕ) (b : Bool) → Does room k s r a x b → a ≢ some n → map bare (yielded r.says) ++ left r.after.pending ≡ left s.pending
      go r a x b (streams_only _ _ q _) h = rw q
      go r a x b (writes p o len t _ _) h =
          let y : List Chunk = fragments p s.numbers.next o len t in
          let j : Lane = lane_of (is_unordered p t) in
          let w : UnderWay = s.pending.under_way in
          ap (λ (o : UnderWay). map bare (rest_in o (with_ring j w (at j s.pending ++ y) s.pending))) (ring_way j w (at j s.pending ++ y) s.pending)
          ∙ ap (map bare) (rest_pushed w w s.pending v j y)
      go r a x b (starts now _ q _) h = rw q (rest_started now s.numbers.unstarted s.pending.under_way s.pending)
      go r a x b (sends now c y _ g _) h = taken_rest l e now c y g
      go r a x b (abandons_it c _ _ q _ _) h = rw q (removed n c.message.number i (λ z. h (ap some z)))
      go r a x b (expires_tail c _ _ q _ _) h = rw q (removed n c.message.number i (λ z. h (ap some z)))
      go r a x b (expires_whole c now _ q g z) h =
          absurd (true≢false (sym (and_l c.beginning (leb 1 c.length && overdue now c) z) ∙ (held_follows v c g l e).not_first))
      go r a x b (acks _ _ _ q _) h = rw q
      go r a x b (pops _ _ _) h = refl
      go r a x b marks h = refl

-- ---- any calls

agree_nil : (l : List Chunk) → Agree l []
agree_nil [] = tt
agree_nil (c ∷ l) = tt

agree_append : (y a b : List Chunk) → Agree a b → Agree (y ++ a) (y ++ b)
agree_append [] a b h = h
agree_append (c ∷ y) a b h = (refl, agree_append y a b h)

-- one call, and what comes behind it
agree_step : {room : Room} (s : Sender) (v : Valid room s) (n : ℕ) → Each (Of n) (left s.pending) → (k : Call) → abandons k s ≢ some n → (zs : List Chunk)
    → (Each (Of n) (left (step room k s).after.pending) → Agree (map bare zs) (left (step room k s).after.pending))
    → Agree (map bare (yielded (step room k s).says ++ zs)) (left s.pending)
agree_step {room} s v n i k h zs f = go s.pending.under_way refl
  where
    s' : Sender
    s' = (step room k s).after

    ys : List Chunk
    ys = yielded (step room k s).says

    go : (w : UnderWay) → s.pending.under_way ≡ w → Agree (map bare (ys ++ zs)) (left s.pending)
    go Idle e = subst (λ (w : UnderWay). Agree (map bare (ys ++ zs)) (map bare (rest_in w s.pending))) (sym e) (agree_nil (map bare (ys ++ zs)))
    go (Sending l) e =
        let q = rest_step s v l e n i k h in
        let j : Each (Of n) (left s'.pending) = (each_parts (Of n) (map bare ys) (left s'.pending) (subst (Each (Of n)) (sym q) i)).1 in
        rw (map-append bare ys zs) (subst (Agree (map bare ys ++ map bare zs)) q (agree_append (map bare ys) (map bare zs) (left s'.pending) (f j)))

pub in_order_lem : {room : Room} (ks : List Call) (s : Sender) → Valid room s → (n : ℕ) → Each (Of n) (left s.pending) → Unabandoned room n ks s
    → Agree (map bare (yields_of room ks s)) (left s.pending)
in_order_lem [] s v n i h = tt
in_order_lem {room} (k ∷ ks) s v n i h =
    let s' : Sender = (step room k s).after in agree_step s v n i k h.0 (yields_of room ks s') (λ j. in_order_lem ks s' (keeps s v k).0.ok n j h.1)

-- ---- behind a send

remaining_behind : (W : Message → Type 0) (c : Chunk) (k : ℕ) (x : List Chunk) → Ring W (behind c) k x → Remaining (behind (bare c)) (map bare (when c.ending then [] else up_to_end x))
remaining_behind W c k x =
    bool_case (λ b. Ring W (when b then none else some c) k x → Remaining (when b then none else some (bare c)) (map bare (when b then [] else up_to_end x))) c.ending
    (λ _ _. tt) (λ _ r. remaining_bare (some c) (up_to_end x) (ring_rest W c k x r))

pub sent_remaining : {room : Room} (s : Sender) → Valid room s → (now tsn : ℕ) (y : Chunk) → (send room now s).says ≡ Ok (Some (tsn, y))
    → Remaining (behind (bare y)) (left (send room now s).after.pending)
sent_remaining {room} s v now tsn y e =
    let g = send_yields room s now tsn y e in
    let p : Pending = (with_lifetimes now s).pending in
    let z = front (start_core s.pending v now).ok g.front (ap first g.stood) in
    let x : z.0 ≡ g.others = cc in
    subst (λ (d : Chunk). Remaining (behind (bare d)) (left (send room now s).after.pending)) g.sent
    (rw (g.after_is, front_rest (head_lane p) g.front g.others p, ← x) (remaining_behind _ g.front _ z.0 z.2.behind))

-- what comes behind a chunk is of its message
remaining_each : (Q : Message → Type 0) (w : Option Chunk) (l : List Chunk) → On Q w → Remaining w l → Each (λ c. Q c.message) l
remaining_each Q none [] a r = tt
remaining_each Q none (c ∷ l) a r = absurd r
remaining_each Q (some p) [] a r = absurd r
remaining_each Q (some p) (c ∷ l) a r =
    let q : Q c.message = subst Q (sym r.0.same_message) a in (q, remaining_each Q (behind c) l (if-case (On Q) c.ending (λ _. tt) (λ _. q)) r.1)

pub sent_in_order : {room : Room} (s : Sender) → Valid room s → (now tsn : ℕ) (y : Chunk) → (send room now s).says ≡ Ok (Some (tsn, y)) → (js : List Call)
    → Unabandoned room y.message.number js (send room now s).after → Agree (map bare (yields_of room js (send room now s).after)) (left (send room now s).after.pending)
sent_in_order {room} s v now tsn y e js h =
    let n : ℕ = y.message.number in
    let Q : Message → Type 0 = λ x. x.number ≡ n in
    in_order_lem js (send room now s).after (keeps s v (Send now)).0.ok n
    (remaining_each Q (behind (bare y)) (left (send room now s).after.pending) (if-case (On Q) y.ending (λ _. tt) (λ _. refl)) (sent_remaining s v now tsn y e)) h
