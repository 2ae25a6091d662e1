-- The head is taken from its ring.
use Rattle.std.specs.Prelude.{◌≡◌, ℕ, ◌+◌, Bool, true, false, not, List, [], ◌∷◌, length, drop, nat_lt, refl, Some, None}
use Rattle.std.proofs.Common.{sym, ap, ap₂, ◌∙◌, arith, lt-ltb}
use Rattle.model.specs.declared.Chunk.{Chunk}
use Rattle.model.specs.State.{Lane, Unordered, Ordered, UnderWay, Idle, Pending, at, lane_of, with_ring}
use Rattle.model.specs.Lists.{when◌then◌else◌, first}
use Rattle.model.specs.Rings.{lane_ahead, head_lane, head, under_way_after, bytes}
use Rattle.model.specs.Flight.{found}
use Rattle.ring.specs.Held.{first_none, first_one}
use Rattle.pending_queue.specs.declared.PendingQueue.{PendingQueue}
use Rattle.pending_queue.specs.Queue.{under_way_of, bytes_in, pending_in, Counted}
use Rattle.model.specs.Answers.{Found}

-- the front of a ring, which is the list, is taken
abbrev pub popped_from : Lane → List Chunk → Pending → Pending
popped_from l [] p = p
popped_from l (c ∷ x) p = with_ring l (under_way_after l c) x p

-- the head is taken, if there is one; a non-ending fragment puts its message under way, an ending one ends that
abbrev pub popped : Pending → Pending
popped p = popped_from (head_lane p) (at (head_lane p) p) p

-- that chunk is told; the counter stays the sum
abbrev pub Pops : PendingQueue → (unordered ordered : List ℕ) → PendingQueue → Found → Type 0
Pops q u o q' front =
    (pending_in q' u o ≡ popped (pending_in q u o)) × (front ≡ found (head (pending_in q u o))) × (Counted q u o → Counted q' u o)

-- ---- which ring it is in, where nothing is under way

idle_ahead : (u : List Chunk) → lane_of (nat_lt 0 (length u)) ≡ lane_ahead Idle u
idle_ahead [] = refl
idle_ahead (c ∷ u) = ap lane_of (lt-ltb 0 (length (c ∷ u)) (omega arith))

pub ahead_idle : {s : Bool} (b : Bool) (u : List Chunk) {n : ℕ} → s ≡ false → n ≡ length u → lane_of (nat_lt 0 n) ≡ lane_ahead (under_way_of s b) u
ahead_idle b u e q = ap (λ (k : ℕ). lane_of (nat_lt 0 k)) q ∙ idle_ahead u ∙ ap (λ (t : Bool). lane_ahead (under_way_of t b) u) (sym e)

pub ahead_sending : {s : Bool} (b : Bool) (u : List Chunk) → s ≡ true → lane_of b ≡ lane_ahead (under_way_of s b) u
ahead_sending b u e = sym (ap (λ (t : Bool). lane_ahead (under_way_of t b) u) e)

-- ---- the head is the front of its ring, as code reads it

pub head_at : (p : Pending) {l : Lane} {f : Found} → l ≡ head_lane p → f ≡ found (first (at l p)) → f ≡ found (head p)
head_at p e q = q ∙ ap (λ (l : Lane). found (first (at l p))) e

-- ---- the two ways of taking it

none_from : (p : Pending) (l : Lane) (x : List Chunk) → found (first x) ≡ None → p ≡ popped_from l x p
none_from p l x e = sym (ap (λ (y : List Chunk). popped_from l y p) (first_none x e))

pub popped_none : (p : Pending) → found (head p) ≡ None → p ≡ popped p
popped_none p e = none_from p (head_lane p) (at (head_lane p) p) e

one_from : (p : Pending) (l : Lane) (x : List Chunk) (c : Chunk) → found (first x) ≡ Some c → with_ring l (under_way_after l c) (drop 1 x) p ≡ popped_from l x p
one_from p l x c e = sym (ap (λ (y : List Chunk). popped_from l y p) (first_one x c e))

-- the flags behind a chunk
flags_after : (e b : Bool) → under_way_of (not e) b ≡ (when e then Idle else under_way_of true b)
flags_after true b = refl
flags_after false b = refl

pub popped_one : (p : Pending) (b : Bool) (c : Chunk) {s : Bool} {x : List Chunk} → s ≡ not c.ending → lane_of b ≡ head_lane p → found (head p) ≡ Some c → x ≡ drop 1 (at (lane_of b) p)
    → with_ring (lane_of b) (under_way_of s b) x p ≡ popped p
popped_one p b c t e q r =
    ap₂ (λ (s : Bool) (y : List Chunk). with_ring (lane_of b) (under_way_of s b) y p) t r
    ∙ ap (λ (w : UnderWay). with_ring (lane_of b) w (drop 1 (at (lane_of b) p)) p) (flags_after c.ending b)
    ∙ ap (λ (l : Lane). with_ring l (under_way_after l c) (drop 1 (at l p)) p) e
    ∙ one_from p (head_lane p) (at (head_lane p) p) c q

-- the bytes that are left
left_from : (p : Pending) (l : Lane) (x : List Chunk) (c : Chunk) → x ≡ c ∷ drop 1 x → x ≡ at l p → bytes_in (popped_from l x p) + c.length ≡ bytes_in p
left_from p l x c e a = ap (λ (y : List Chunk). bytes_in (popped_from l y p) + c.length) e ∙ by l a
  where
    by : (m : Lane) → x ≡ at m p → bytes_in (with_ring m (under_way_after m c) (drop 1 x) p) + c.length ≡ bytes_in p
    by Unordered a = omega (arith, ap bytes e, ap bytes a)
    by Ordered a = omega (arith, ap bytes e, ap bytes a)

pub popped_bytes : (p : Pending) (c : Chunk) → found (head p) ≡ Some c → bytes_in (popped p) + c.length ≡ bytes_in p
popped_bytes p c e = left_from p (head_lane p) (at (head_lane p) p) c (first_one (at (head_lane p) p) c e) refl
