-- Window behind window: the entries before are done, and the furthest end so far is known.
use Rattle.std.specs.Prelude.{◌≡◌, ℕ, zero, suc, ◌+◌, ◌<◌, ◌≤◌, max, Bool, true, false, ◌&&◌, leb, List, [], ◌∷◌, length, drop, replicate, nat_le, refl}
use Rattle.std.proofs.Common.{sym, ap, subst, ◌∙◌, add-zero, add-one, arith, length-drop, leb-true}
use Rattle.std.proofs.lemmas.Bool.{lt-leb}
use Rattle.model.specs.declared.Block.{Block}
use Rattle.model.specs.declared.Chunk.{Chunk}
use Rattle.model.specs.Lists.{when◌then◌else◌, some_of}
use Rattle.model.specs.Rings.{bytes}
use Rattle.model.specs.Flight.{acknowledged}
use Rattle.model.specs.Sack.{within, all_within}
use Rattle.demands.specs.Sacks.{inside, gapped}
use Rattle.outbound_sack.specs.Ends.{noted_all, ends_from, end_at, end_up_to, gapped_in, noted_ends, walk_is, up_to_suc}
use Rattle.outbound_sack.specs.Walks.{walked, top_after, WalksOver, nothing_reached}

-- where the blocks are within, those of the entries `l` that one covers are acknowledged, and `m` are the entries then; n bytes are released
abbrev pub Acknowledges : List Block → (l m : List Chunk) → (n : ℕ) → Type 0
Acknowledges bs l m n = (all_within (length l) bs ≡ true → m ≡ gapped bs 1 l) × (n + bytes m ≡ bytes l)

-- the ends of a window in which nothing is noted
unfoldable pub blank : List ℕ
blank = replicate 256 0

-- a walk over what was noted there
pub walks_noted : (bs : List Block) (from top n : ℕ) (l : List Chunk) {old es : List ℕ} {m : List Chunk} {t : ℕ} → old ≡ blank → es ≡ noted_all (from + 1) bs old → WalksOver es from top l m t n
    → WalksOver (noted_all (from + 1) bs blank) from top l m t n
walks_noted bs from top n l {m = m} {t} e f w = subst (λ (es : List ℕ). WalksOver es from top l m t n) (f ∙ ap (noted_all (from + 1) bs) e) w

-- ---- the furthest end

-- no block starts at 0, so none reaches in from before the first
none_before : (left : ℕ) (bs : List Block) → all_within left bs ≡ true → 0 ≡ end_up_to 0 bs
none_before left [] w = refl
none_before left (b ∷ bs) w =
    let p = both (within left b) (all_within left bs) w in
    let q = both (nat_le 1 b.start) (nat_le b.start b.end && nat_le b.end left) p.0 in
    let e : leb b.start 0 ≡ false = lt-leb b.start 0 (leb-true 1 b.start q.0) in
    let m : 0 ≡ max 0 (end_up_to 0 bs) = omega (arith, none_before left bs p.1) in
    m ∙ ap (λ (t : Bool). max (when t then b.end else 0) (end_up_to 0 bs)) (sym e)
  where
    both : (x y : Bool) → (x && y) ≡ true → (x ≡ true) × (y ≡ true)
    both true true e = (refl, refl)
    both true false e = (refl, e)
    both false y e = (e, let z : false ≡ true = e in cc)

-- that of a whole window
window_top : (w k : ℕ) (bs : List Block) (l : List Chunk) → w ≤ length l → top_after (ends_from (suc k) bs (replicate w 0)) (end_up_to k bs) l ≡ end_up_to (k + w) bs
window_top zero k bs l h = ap (λ (n : ℕ). end_up_to n bs) (sym (add-zero k))
window_top (suc w) k bs [] h = absurd (omega arith)
window_top (suc w) k bs (c ∷ l) h =
    let m : max (end_up_to k bs) (max 0 (end_at (suc k) bs)) ≡ end_up_to (suc k) bs = omega (arith, up_to_suc k bs) in
    let e : suc k + w ≡ k + suc w = omega arith in
    ap (λ (t : ℕ). top_after (ends_from (suc (suc k)) bs (replicate w 0)) t l) m ∙ window_top w (suc k) bs l (omega arith) ∙ ap (λ (n : ℕ). end_up_to n bs) e

-- ---- the entries

-- what is behind them stays
behind : (j : ℕ) (bs : List Block) (i : ℕ) (l : List Chunk) → drop j (gapped_in j bs i l) ≡ drop j l
behind zero bs i l = refl
behind (suc j) bs i [] = refl
behind (suc j) bs i (c ∷ l) = behind j bs (suc i) l

-- all of them
gapped_all : (j : ℕ) (bs : List Block) (i : ℕ) (l : List Chunk) → length l ≤ j → gapped_in j bs i l ≡ gapped bs i l
gapped_all zero bs i [] h = refl
gapped_all (suc j) bs i [] h = refl
gapped_all zero bs i (c ∷ l) h = absurd (omega arith)
gapped_all (suc j) bs i (c ∷ l) h = ap (λ (r : List Chunk). (when some_of (inside i) bs then acknowledged c else c) ∷ r) (gapped_all j bs (suc i) l (omega arith))

-- a window of w behind j that are done, the first of them at offset i + 1
one_window : (w j i k : ℕ) (bs : List Block) (l : List Chunk) → k ≡ i + j
    → walked j (suc k) (ends_from (suc k) bs (replicate w 0)) (end_up_to k bs) (gapped_in j bs (suc i) l) ≡ gapped_in (j + w) bs (suc i) l
one_window w zero i k bs l e =
    let q : k ≡ i = omega arith in
    let z : w ≡ 0 + w = omega arith in
    walk_is w k bs l ∙ (λ t. gapped_in (z t) bs (suc (q t)) l)
one_window w (suc j) i k bs [] e =
    let z : suc j + w ≡ suc (j + w) = omega arith in
    nothing_reached (ends_from (suc k) bs (replicate w 0)) (end_up_to k bs) (suc k) ∙ sym (ap (λ (n : ℕ). gapped_in n bs (suc i) []) z)
one_window w (suc j) i k bs (c ∷ l) e =
    let z : suc j + w ≡ suc (j + w) = omega arith in
    ap (λ (r : List Chunk). (when some_of (inside (suc i)) bs then acknowledged c else c) ∷ r) (one_window w j (suc i) k bs l (omega arith))
    ∙ sym (ap (λ (n : ℕ). gapped_in n bs (suc i) (c ∷ l)) z)

-- ---- between two windows: `l` are the entries now, and `l₀` those before

pub record Windows (bs : List Block) (l₀ : List Chunk) (from top : ℕ) (l : List Chunk) : Type 0 where
  pub done : l ≡ gapped_in from bs 1 l₀
  pub reach : from < length l₀ → top ≡ end_up_to from bs

module _ (bs : List Block) (l₀ : List Chunk) where
  pub first_window : (left : ℕ) → all_within left bs ≡ true → Windows bs l₀ 0 0 l₀
  first_window left w = record { done = refl; reach = λ _. none_before left bs w }

  next_window : (w from top n : ℕ) {l m : List Chunk} {t : ℕ} → from < length l₀ → Windows bs l₀ from top l → WalksOver (noted_all (from + 1) bs (replicate w 0)) from top l m t n → Windows bs l₀ (from + w) t m
  next_window w from top n {l} h g e =
      let ends : noted_all (from + 1) bs (replicate w 0) ≡ ends_from (suc from) bs (replicate w 0) = noted_ends (from + 1) bs (replicate w 0) ∙ ap (λ (k : ℕ). ends_from k bs (replicate w 0)) (add-one from) in
      let z : from ≡ 0 + from = omega arith in
      let rest : drop from l ≡ drop from l₀ = ap (drop from) g.done ∙ behind from bs 1 l₀ in
      record {
        done = e.0 ∙ (λ i. walked from (suc from) (ends i) (g.reach h i) (g.done i)) ∙ one_window w from 0 from bs l₀ z;
        reach = λ k. e.1 ∙ (λ i. top_after (ends i) (g.reach h i) (rest i)) ∙ window_top w from bs (drop from l₀) (omega (arith, length-drop from l₀));
      }

  -- of 256
  pub next_blank : (from top n : ℕ) {l m : List Chunk} {t : ℕ} → from < length l₀ → Windows bs l₀ from top l → WalksOver (noted_all (from + 1) bs blank) from top l m t n → Windows bs l₀ (from + 256) t m
  unfolding blank
  next_blank from top n h g e = next_window 256 from top n h g e

  pub last_window : (from top : ℕ) {l : List Chunk} → length l₀ ≤ from → Windows bs l₀ from top l → l ≡ gapped bs 1 l₀
  last_window from top h g = g.done ∙ gapped_all from bs 1 l₀ h
