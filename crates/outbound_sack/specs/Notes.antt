-- The ways out of `note`: nothing changes, or the cell of the start takes the end.
use Rattle.std.specs.Prelude.{◌≡◌, ℕ, zero, suc, ◌+◌, ◌<◌, ◌≤◌, max, List, [], ◌∷◌, length, set, ◌≢◌, nat_eq, slice_index, slice_index_or, slice_set, refl}
use Rattle.std.proofs.Common.{sym, ap, ◌∙◌, arith, eq-eqb, ne_eqb}
use Rattle.std.proofs.lemmas.List.{set-get_or}
use Rattle.model.specs.declared.Block.{Block}
use Rattle.model.specs.Lists.{when◌then◌else◌}
use Rattle.outbound_sack.specs.Ends.{noted, noted_all}

-- a cell that is not the start's
other : (k : ℕ) (b : Block) (e : ℕ) → (b.start ≢ k) → e ≡ max e (when nat_eq b.start k then b.end else 0)
other k b e h = rw (ne_eqb b.start k h) (omega arith)

-- the start is before the window, or behind it
pub before : (k : ℕ) (b : Block) (l : List ℕ) → b.start < k → l ≡ noted k b l
before k b [] h = refl
before k b (e ∷ l) h = let o = other k b e (λ q. omega arith) in λ i. o i ∷ before (suc k) b l (omega arith) i

pub past : (k : ℕ) (b : Block) (l : List ℕ) → k + length l ≤ b.start → l ≡ noted k b l
past k b [] h = refl
past k b (e ∷ l) h = let o = other k b e (λ q. omega arith) in λ i. o i ∷ past (suc k) b l (omega arith) i

-- it is in the window
own : (k : ℕ) (b : Block) (e : ℕ) → b.start ≡ k → max e b.end ≡ max e (when nat_eq b.start k then b.end else 0)
own k b e h = rw (eq-eqb b.start k h)

in_window : (i k : ℕ) (b : Block) (l : List ℕ) → b.start ≡ k + i → i < length l → slice_set l i (max (slice_index l i) b.end) ≡ noted k b l
in_window i k b [] e h = refl
in_window zero k b (x ∷ l) e h = let o = own k b x (omega arith) in λ j. o j ∷ before (suc k) b l (omega arith) j
in_window (suc i) k b (x ∷ l) e h = let o = other k b x (λ q. omega arith) in λ j. o j ∷ in_window i (suc k) b l (omega arith) (omega arith) j

-- the cell has as far an end already, or it takes this one
pub kept : (i k : ℕ) (b : Block) (l : List ℕ) → b.start ≡ k + i → i < length l → b.end ≤ slice_index l i → l ≡ noted k b l
kept i k b l e h g =
    let m : max (slice_index l i) b.end ≡ slice_index_or l i 0 = omega arith in
    sym (set-get_or l i 0) ∙ ap (set l i) (sym m) ∙ in_window i k b l e h

pub taken : (i k : ℕ) (b : Block) (l : List ℕ) → b.start ≡ k + i → i < length l → slice_index l i < b.end → slice_set l i b.end ≡ noted k b l
taken i k b l e h g =
    let m : max (slice_index l i) b.end ≡ b.end = omega arith in
    ap (set l i) (sym m) ∙ in_window i k b l e h

length_noted : (k : ℕ) (b : Block) (l : List ℕ) → length (noted k b l) ≡ length l
length_noted k b [] = refl
length_noted k b (e ∷ l) = ap suc (length_noted (suc k) b l)

pub same_long : (k : ℕ) (bs : List Block) (l : List ℕ) → length (noted_all k bs l) ≡ length l
same_long k [] l = refl
same_long k (b ∷ bs) l = same_long k bs (noted k b l) ∙ length_noted k b l
