-- A word behind another; past the end nothing is written.
use Rattle.std.specs.Prelude.{◌≡◌, refl, List, [], ◌∷◌, ◌++◌, ℕ, suc, ◌+◌, ◌≤◌, ◌<◌, length, get_or, set, drop}
use Rattle.std.proofs.Common.{sym, ap, ◌∙◌, arith, length-set, drop-cons}
use Rattle.std.proofs.lemmas.List.Edits.{sets}
use Rattle.std.proofs.Math.Seq.{set_out}
use Rattle.coded_calls.specs.declared.tape.Tape.{Tape}

-- The same slice stays lent, and what is written from the new place on stands behind what a call wrote: from the old place on there stands
-- `f us` where `us` comes later.
abbrev pub Puts : (old new : Tape) → (f : List ℕ → List ℕ) → Type 0
Puts old new f = (new.words.ghost_name ≡ old.words.ghost_name) × ((us : List ℕ) → sets new.words.now new.at us ≡ sets old.words.now old.at (f us))

-- past the end nothing is written
pub sets_past : (us ws : List ℕ) (at : ℕ) → length ws ≤ at → sets ws at us ≡ ws
sets_past [] ws at h = refl
sets_past (u ∷ us) ws at h =
    let e = set_out ws at u h in
    let l = length-set ws at u in
    sets_past us (set ws at u) (suc at) (omega (arith, l)) ∙ e

-- so the place may stay there
pub put_past : (ws : List ℕ) (at word : ℕ) → length ws ≤ at → (us : List ℕ) → sets ws at us ≡ sets ws at (word ∷ us)
put_past ws at word h us = sets_past us ws at h ∙ sym (sets_past (word ∷ us) ws at h)

-- one more number of a list: `vs` and `next` are the tape and the place behind it
pub put_more : (ws vs : List ℕ) (at next i u : ℕ) (list : List ℕ) → i < length list → u ≡ get_or list i 0 → ((us : List ℕ) → sets vs next us ≡ sets ws at (u ∷ us))
    → (us : List ℕ) → sets vs next (drop (i + 1) list ++ us) ≡ sets ws at (drop i list ++ us)
put_more ws vs at next i u list h q e us =
    let n : i + 1 ≡ suc i = omega arith in
    (λ j. sets vs next (drop (n j) list ++ us)) ∙ e (drop (suc i) list ++ us) ∙ (λ j. sets ws at (q j ∷ drop (suc i) list ++ us))
    ∙ ap (λ (l : List ℕ). sets ws at (l ++ us)) (sym (drop-cons list i 0 h))
