-- That each of the first numbers has a block within is that all blocks are.
use Rattle.std.proofs.Common.{◌≡◌, ℕ, zero, suc, ◌+◌, Bool, ◌&&◌, List, refl, ap, ◌∙◌, arith, rules, tests}
use Rattle.std.specs.List.{list_all, range_with_len}
use Rattle.std.proofs.lemmas.Iterator.{YieldsList-from_range}
use Rattle.std.proofs.lemmas.Iterator.Search.{all_from_yields_List}
use Rattle.model.specs.Sack.{block_at, blocks_from, within, all_within}
use Rattle.wire.proofs.sack.all_within.Goals as goal

walked : (left n i : ℕ) (q : List ℕ) → list_all (λ j. within left (block_at j q)) (range_with_len i n) ≡ all_within left (blocks_from n i q)
walked left zero i q = refl
walked left (suc n) i q =
    let f : i + 1 ≡ suc i = omega arith in
    ap (λ (r : Bool). within left (block_at i q) && r) (walked left n (i + 1) q ∙ ap (λ (j : ℕ). all_within left (blocks_from n j q)) f)

pub returns : goal.returns
returns c =
    let a = c.args in
    let q = a.part.now in
    all_from_yields_List (λ j. within a.left (block_at j q)) _ _ _ c.all.ensures.ran (YieldsList-from_range 0 a.count a.count refl (omega arith)) (λ x b q k. search (rules, tests))
    ∙ walked a.left a.count 0 q
