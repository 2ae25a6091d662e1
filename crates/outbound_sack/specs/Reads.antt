-- Reading a SACK, and its ways out, as the model's.
use Rattle.std.specs.Prelude.{◌≡◌, ℕ, ◌+◌, ◌-◌, ◌<◌, ◌≤◌, Bool, true, false, ◌&&◌, List, length, take, drop, nat_le, refl, Some, None, Ok, Err}
use Rattle.std.proofs.Math.Path.{sym}
use Rattle.std.proofs.Common.{ap, ◌∙◌, arith, length-drop, take_all, le-leb, lt-ltb, le-ltb, leb-true}
use Rattle.std.proofs.lemmas.Bool.{lt-leb}
use Rattle.limits.specs.Limits.{Room}
use Rattle.model.specs.declared.Block.{Block}
use Rattle.model.specs.Lists.{when◌then◌else◌, total}
use Rattle.model.specs.State.{Sender, Flight, Out, same}
use Rattle.model.specs.Told.{told_sacked}
use Rattle.model.specs.Rings.{bytes}
use Rattle.model.specs.Calls.{run, answers}
use Rattle.model.specs.Sack.{cumulative_of, block_count, is_sack, blocks_in, blocks_from, all_within}
use Rattle.model.specs.Sacks.{covered, is_stale, sack_calls, bytes_in, sacking, sack}
use Rattle.demands.specs.Sacks.{sacked_flight, Closed}
use Rattle.wire.specs.declared.sack.Layout.{Layout}
use Rattle.wire.specs.SackReads.{laid_as, layout_of}
use Rattle.rows.specs.Parts.{patch, patch_own}
use Rattle.rows.specs.Spared.{Spares}
use Rattle.payload_queue.specs.declared.PayloadQueue.{PayloadQueue}
use Rattle.payload_queue.specs.Queue.{flight_of, Counted}
use Rattle.payload_queue.specs.Model.{with_flight}
use Rattle.outbound_queue.specs.declared.OutboundQueue.{OutboundQueue}
use Rattle.outbound_queue.specs.Outbound.{third, rings_in, remade, sender_of, flight_back, sender_by, counted_by_lem}
use Rattle.outbound_queue.specs.Calls.{GoesOrStays}
use Rattle.outbound_sack.specs.Covers.{Frees}
use Rattle.limits.specs.declared.Refusal.TheVariants.{BadSack, BadBlock}
use Rattle.model.specs.Answers.{Sacked}

-- ---- what is promised of the flight alone

-- where the blocks are within what is left behind the first k entries, these go, and what the blocks cover is acknowledged; n bytes are released
abbrev pub Accepts : (k : ℕ) → List Block → PayloadQueue → List ℕ → PayloadQueue → List ℕ → (n : ℕ) → Type 0
Accepts k bs q ws q' ws' n = all_within (length (flight_of q ws).entries - k) bs ≡ true → Frees (sacked_flight k bs) q ws q' ws' n

-- of every sender that has this flight the model's call; a refusal leaves the flight's numbers and every word
abbrev pub Reads : (packet : List ℕ) → PayloadQueue → List ℕ → PayloadQueue → List ℕ → Sacked → Type 0
Reads p q ws q' ws' answer =
    ((room : Room) (s : Sender) → record { after = with_flight (flight_of q' ws') s; says = answer } ≡ sack room p (with_flight (flight_of q ws) s))
    × (Counted q ws → Counted q' ws') × Spares (told_sacked answer).number q ws q' ws'

-- ---- what the reader of the layout says

record IsSack (p : List ℕ) (t n : ℕ) : Type 0 where
  pub is : is_sack p ≡ true
  pub cumulative : t ≡ cumulative_of p
  pub blocks : n ≡ block_count p

no_sack : (p : List ℕ) → layout_of p ≡ None → is_sack p ≡ false
no_sack p e = go (is_sack p) e
  where
    go : (b : Bool) → (when b then laid_as (cumulative_of p) (block_count p) else None) ≡ None → b ≡ false
    go true q = let z : ◌≡◌ {A = ℕ} 0 1 = cc in absurd (omega arith)
    go false q = refl

is_sack_lem : (p : List ℕ) (t n : ℕ) → layout_of p ≡ laid_as t n → IsSack p t n
is_sack_lem p t n e = go (is_sack p) refl e
  where
    go : (b : Bool) → is_sack p ≡ b → (when b then laid_as (cumulative_of p) (block_count p) else None) ≡ laid_as t n → IsSack p t n
    go true y q =
        let z : ◌≡◌ {A = Layout} (record { cumulative = t; blocks = n }) (record { cumulative = cumulative_of p; blocks = block_count p }) = cc in
        record { is = y; cumulative = ap (λ (x : Layout). x.cumulative) z; blocks = ap (λ (x : Layout). x.blocks) z }
    go false y q = let z : ◌≡◌ {A = ℕ} 0 1 = cc in absurd (omega arith)

-- so the part from byte 16 on is there
pub long_enough : (p : List ℕ) (t n : ℕ) → layout_of p ≡ laid_as t n → 16 ≤ length p
long_enough p t n e = leb-true 16 (length p) (go (nat_le 16 (length p)) _ (is_sack_lem p t n e).is)
  where
    go : (a b : Bool) → (a && b) ≡ true → a ≡ true
    go true b q = refl
    go false b q = q

part_is : (p : List ℕ) → take (length p - 16) (drop 16 p) ≡ drop 16 p
part_is p = take_all (length p - 16) (drop 16 p) (omega (arith, length-drop 16 p))

-- ---- what code computes: n entries, k of them covered, and m blocks in the part as it is lent

-- the blocks of the part
abbrev lent : (m : ℕ) → List ℕ → List Block
lent m p = blocks_from m 0 (take (length p - 16) (drop 16 p))

module _ (p : List ℕ) (t m : ℕ) (f : Flight) {n k : ℕ} {b : Bool} (e : n ≡ length f.entries) (q : k ≡ covered t f) (h : b ≡ all_within (n - k) (lent m p)) where
  pub tested : b ≡ all_within (length f.entries - covered t f) (blocks_from m 0 (drop 16 p))
  tested = h ∙ (λ i. all_within (e i - q i) (blocks_from m 0 (part_is p i)))

  pub lent_within : b ≡ true → all_within (length f.entries - k) (lent m p) ≡ true
  lent_within y = ap (λ (x : ℕ). all_within (x - k) (lent m p)) (sym e) ∙ sym h ∙ y

  pub left_as : {g : Flight} → g ≡ sacked_flight k (lent m p) f → g ≡ sacked_flight (covered t f) (blocks_from m 0 (drop 16 p)) f
  left_as g = g ∙ (λ i. sacked_flight (q i) (blocks_from m 0 (part_is p i)) f)

-- ---- the ways out: `t` and `n` are what the reader says

module _ (room : Room) (p : List ℕ) (s : Sender) where
  pub refused : layout_of p ≡ None → same (Err BadSack) s ≡ sack room p s
  unfolding sack
  refused e = sym (ap (λ (b : Bool). when b then sacking room (cumulative_of p) (blocks_in p) s else same (Err BadSack) s) (no_sack p e))

  module _ (t n : ℕ) (e : layout_of p ≡ laid_as t n) where
    here : sacking room t (blocks_from n 0 (drop 16 p)) s ≡ sack room p s
    unfolding sack
    here =
        let i = is_sack_lem p t n e in
        (λ j. sacking room (i.cumulative j) (blocks_from (i.blocks j) 0 (drop 16 p)) s) ∙ sym (ap (λ (b : Bool). when b then sacking room (cumulative_of p) (blocks_in p) s else same (Err BadSack) s) i.is)

    -- the blocks
    abbrev bs : List Block
    bs = blocks_from n 0 (drop 16 p)

    -- how many entries are behind the cumulative TSN
    abbrev left : ℕ
    left = length s.flight.entries - covered t s.flight

    abbrev done : Out Sacked
    done = record { after = run room (sack_calls t bs s.flight) s; says = Ok (Some (total bytes_in (answers room (sack_calls t bs s.flight) s))) }

    abbrev by : (stale good : Bool) → Out Sacked
    by stale good = when stale then same (Ok None) s else when good then done else same (Err BadBlock) s

    stale : is_stale t s.flight ≡ true → same (Ok None) s ≡ sack room p s
    stale h = sym (ap (λ (b : Bool). by b (all_within left bs)) h) ∙ here

    pub stale_empty : length s.flight.entries ≤ 0 → same (Ok None) s ≡ sack room p s
    stale_empty h = stale (rw (le-leb (length s.flight.entries) 0 h))

    module _ (some : 0 < length s.flight.entries) where
      pub stale_beyond : length s.flight.entries < covered t s.flight → same (Ok None) s ≡ sack room p s
      stale_beyond h = stale (rw (lt-leb (length s.flight.entries) 0 some, lt-ltb (length s.flight.entries) (covered t s.flight) h))

      module _ (h : covered t s.flight ≤ length s.flight.entries) where
        fresh : is_stale t s.flight ≡ false
        fresh = rw (lt-leb (length s.flight.entries) 0 some, le-ltb (length s.flight.entries) (covered t s.flight) h)

        pub bad_block_lem : all_within left bs ≡ false → same (Err BadBlock) s ≡ sack room p s
        bad_block_lem g = sym (ap (λ (b : Bool). by b (all_within left bs)) fresh ∙ ap (by false) g) ∙ here

        pub taken : {f : Flight} {m : ℕ} → all_within left bs ≡ true → Closed room t bs s → f ≡ sacked_flight (covered t s.flight) bs s.flight → m + bytes f.entries ≡ bytes s.flight.entries
            → record { after = with_flight f s; says = Ok (Some m) } ≡ sack room p s
        taken {f} {m} g c e q =
            let r : m ≡ total bytes_in (answers room (sack_calls t bs s.flight) s) = omega (arith, c.freed, ap (λ (x : Flight). bytes x.entries) e) in
            (λ i. record { after = (ap (λ (x : Flight). with_flight x s) e ∙ sym c.after) i; says = Ok (Some (r i)) })
            ∙ sym (ap (λ (b : Bool). by b (all_within left bs)) fresh ∙ ap (by false) g) ∙ here

-- ---- of the whole queue: `f` is the flight's queue then, and `vs` are its words

module _ (p : List ℕ) (q : OutboundQueue) (ws : List ℕ) (f : PayloadQueue) (vs : List ℕ) (e : length vs ≡ length (rings_in ws).flight) where
  -- the queue and the cells then
  abbrev after : OutboundQueue
  after = remade q.pending f q

  abbrev cells : List ℕ
  cells = patch (third ws + third ws) (third ws + third ws + third ws) ws vs

  pub handled : {answer : Sacked} → Reads p q.inflight (rings_in ws).flight f vs answer → (room : Room) → GoesOrStays told_sacked (sack room p) q ws after cells answer
  handled {answer} r room = (
    (
      λ ts. ap (λ (x : Sender). record { after = x; says = answer }) (sender_by ts after cells (flight_back ws vs e)) ∙ r.0 room (sender_of ts q ws),
      λ h. counted_by_lem after cells (flight_back ws vs e) (h.0, r.1 h.1),
    ),
    λ n. let s = r.2 n in (
      ap (λ (g : PayloadQueue). remade q.pending g q) s.0,
      ap (patch (third ws + third ws) (third ws + third ws + third ws) ws) s.1 ∙ patch_own (third ws + third ws) (third ws + third ws + third ws) ws,
    ),
  )
