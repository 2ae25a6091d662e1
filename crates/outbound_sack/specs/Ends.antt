-- The furthest end of the blocks that start at each TSN of a window; and that the furthest end so far tells what is covered.
use Rattle.std.specs.Prelude.{◌≡◌, ℕ, zero, suc, ◌<◌, max, Bool, true, false, ◌&&◌, ◌||◌, leb, List, [], ◌∷◌, replicate, nat_eq, nat_le, refl}
use Rattle.std.proofs.Common.{ap, ◌∙◌, arith, le-leb, eq-eqb, ne_eqb}
use Rattle.std.proofs.Math.Decide.{dec_lt}
use Rattle.std.proofs.lemmas.Bool.{lt-leb}
use Rattle.model.specs.declared.Block.{Block}
use Rattle.model.specs.declared.Chunk.{Chunk}
use Rattle.model.specs.Lists.{when◌then◌else◌, some_of}
use Rattle.model.specs.Flight.{acknowledged}
use Rattle.demands.specs.Sacks.{inside}

-- ---- the window: cell i is for offset k + i

abbrev pub noted : (k : ℕ) → Block → List ℕ → List ℕ
noted k b [] = []
noted k b (e ∷ l) = max e (when nat_eq b.start k then b.end else 0) ∷ noted (suc k) b l

abbrev pub noted_all : (k : ℕ) → List Block → List ℕ → List ℕ
noted_all k [] l = l
noted_all k (b ∷ bs) l = noted_all k bs (noted k b l)

-- the entries from offset k on, where `top` is the furthest end of the blocks that start before
abbrev pub reached : (ends : List ℕ) → (top k : ℕ) → List Chunk → List Chunk
reached [] top k l = l
reached (e ∷ es) top k [] = []
reached (e ∷ es) top k (c ∷ l) = (when leb k (max top e) then acknowledged c else c) ∷ reached es (max top e) (suc k) l

-- ---- what the ends mean

-- the furthest end of the blocks that start at k, and of those that start at k or before
abbrev pub end_at : (k : ℕ) → List Block → ℕ
end_at k [] = 0
end_at k (b ∷ bs) = max (when nat_eq b.start k then b.end else 0) (end_at k bs)

abbrev pub end_up_to : (k : ℕ) → List Block → ℕ
end_up_to k [] = 0
end_up_to k (b ∷ bs) = max (when leb b.start k then b.end else 0) (end_up_to k bs)

-- cell by cell
abbrev pub ends_from : (k : ℕ) → List Block → List ℕ → List ℕ
ends_from k bs [] = []
ends_from k bs (e ∷ l) = max e (end_at k bs) ∷ ends_from (suc k) bs l

ends_none : (k : ℕ) (l : List ℕ) → l ≡ ends_from k [] l
ends_none k [] = refl
ends_none k (e ∷ l) = let m : e ≡ max e 0 = omega arith in λ i. m i ∷ ends_none (suc k) l i

ends_more : (k : ℕ) (b : Block) (bs : List Block) (l : List ℕ) → ends_from k bs (noted k b l) ≡ ends_from k (b ∷ bs) l
ends_more k b bs [] = refl
ends_more k b bs (e ∷ l) = let m = max3 e (when nat_eq b.start k then b.end else 0) (end_at k bs) in λ i. m i ∷ ends_more (suc k) b bs l i
  where
    max3 : (x y z : ℕ) → max (max x y) z ≡ max x (max y z)
    max3 x y z = omega arith

pub noted_ends : (k : ℕ) (bs : List Block) (l : List ℕ) → noted_all k bs l ≡ ends_from k bs l
noted_ends k [] l = ends_none k l
noted_ends k (b ∷ bs) l = noted_ends k bs (noted k b l) ∙ ends_more k b bs l

-- one more offset
pub up_to_suc : (k : ℕ) (bs : List Block) → end_up_to (suc k) bs ≡ max (end_up_to k bs) (end_at (suc k) bs)
up_to_suc k [] = refl
up_to_suc k (b ∷ bs) = one (dec_lt b.start (suc k)) (dec_lt (suc k) b.start) (up_to_suc k bs)
  where
    both : (e p q : ℕ) → end_up_to (suc k) bs ≡ max (end_up_to k bs) (end_at (suc k) bs) → e ≡ max p q → max e (end_up_to (suc k) bs) ≡ max (max p (end_up_to k bs)) (max q (end_at (suc k) bs))
    both e p q r h = omega (arith, r, h)

    one : Dec (b.start < suc k) → Dec (suc k < b.start) → end_up_to (suc k) bs ≡ max (end_up_to k bs) (end_at (suc k) bs) → end_up_to (suc k) (b ∷ bs) ≡ max (end_up_to k (b ∷ bs)) (end_at (suc k) (b ∷ bs))
    one (yes h) _ r =
        rw (le-leb b.start (suc k) (omega arith), le-leb b.start k (omega arith), ne_eqb b.start (suc k) (λ q. omega arith)) (both b.end b.end 0 r (omega arith))
    one (no h) (yes g) r =
        rw (lt-leb b.start (suc k) g, lt-leb b.start k (omega arith), ne_eqb b.start (suc k) (λ q. omega arith)) (both 0 0 0 r (omega arith))
    one (no h) (no g) r =
        rw (le-leb b.start (suc k) (omega arith), lt-leb b.start k (omega arith), eq-eqb b.start (suc k) (omega arith)) (both b.end 0 b.end r (omega arith))

-- covered exactly if the furthest end so far reaches there
leb_max : (k x y : ℕ) → nat_le k (max x y) ≡ (nat_le k x || nat_le k y)
leb_max k x y = go (dec_lt x k) (dec_lt y k)
  where
    go : Dec (x < k) → Dec (y < k) → nat_le k (max x y) ≡ (nat_le k x || nat_le k y)
    go (yes h) (yes g) = rw (lt-leb k x h, lt-leb k y g) (lt-leb k (max x y) (omega arith))
    go (yes h) (no g) = rw (lt-leb k x h, le-leb k y (omega arith)) (le-leb k (max x y) (omega arith))
    go (no h) _ = rw (le-leb k x (omega arith)) (le-leb k (max x y) (omega arith))

covered_is : (k : ℕ) (bs : List Block) → nat_le (suc k) (end_up_to (suc k) bs) ≡ some_of (inside (suc k)) bs
covered_is k [] = lt-leb (suc k) 0 (omega arith)
covered_is k (b ∷ bs) =
    leb_max (suc k) (when leb b.start (suc k) then b.end else 0) (end_up_to (suc k) bs) ∙ (λ i. one (nat_le b.start (suc k)) i || covered_is k bs i)
  where
    one : (t : Bool) → nat_le (suc k) (when t then b.end else 0) ≡ (t && nat_le (suc k) b.end)
    one true = refl
    one false = lt-leb (suc k) 0 (omega arith)

-- ---- so a window's walk acknowledges what the blocks cover, and leaves what is behind the window

-- of w entries from offset i on those that a block covers are acknowledged
abbrev pub gapped_in : (w : ℕ) → List Block → (i : ℕ) → List Chunk → List Chunk
gapped_in zero bs i l = l
gapped_in (suc w) bs i [] = []
gapped_in (suc w) bs i (c ∷ l) = (when some_of (inside i) bs then acknowledged c else c) ∷ gapped_in w bs (suc i) l

pub walk_is : (w k : ℕ) (bs : List Block) (l : List Chunk) → reached (ends_from (suc k) bs (replicate w 0)) (end_up_to k bs) (suc k) l ≡ gapped_in w bs (suc k) l
walk_is zero k bs l = refl
walk_is (suc w) k bs [] = refl
walk_is (suc w) k bs (c ∷ l) =
    let m : max (end_up_to k bs) (max 0 (end_at (suc k) bs)) ≡ end_up_to (suc k) bs = omega (arith, up_to_suc k bs) in
    let b = ap (leb (suc k)) m ∙ covered_is k bs in
    (λ i. (when b i then acknowledged c else c) ∷ reached (ends_from (suc (suc k)) bs (replicate w 0)) (m i) (suc (suc k)) l)
    ∙ ap (λ (r : List Chunk). (when some_of (inside (suc k)) bs then acknowledged c else c) ∷ r) (walk_is w (suc k) bs l)
