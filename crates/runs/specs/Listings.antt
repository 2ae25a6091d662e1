-- What a listing wrote in the lent list is what goes on the tape.
use Rattle.std.specs.Prelude.{◌≡◌, refl, List, [], ◌∷◌, ◌++◌, ℕ, length, take, drop, Ok, Err}
use Rattle.std.proofs.Common.{ap, ◌∙◌, take_at}
use Rattle.std.proofs.lemmas.List.Edits.{sets}
use Rattle.limits.specs.Refusals.{refusal_number}
use Rattle.model.specs.Rings.{Listing}
use Rattle.model.specs.Calls.{to_list}
use Rattle.outbound_abandon.specs.LeanListing.{Lent, listed_in}
use Rattle.coded_calls.specs.Words.{words}
use Rattle.model.specs.Answers.{Listed}

-- the answer, and the list behind the call
abbrev pub lent : Listed → List ℕ → Lent
lent a list = record { answer = a; list = list }

-- the words of an answer and of the TSNs in front of the list
abbrev pub listed_words : Listed → List ℕ → List ℕ
listed_words (Ok k) list = 12 ∷ 1 ∷ k ∷ 0 ∷ 0 ∷ take k list
listed_words (Err r) list = 12 ∷ 0 ∷ refusal_number r ∷ 0 ∷ 0 ∷ []

abbrev lent_words : Lent → List ℕ
lent_words l = listed_words l.answer l.list

in_list : (out : List ℕ) (o : Listing) → lent_words (listed_in out o) ≡ words (to_list o)
in_list out (Ok l) = ap (λ (f : List ℕ). 12 ∷ 1 ∷ length l ∷ 0 ∷ 0 ∷ f) (take_at l (drop (length l) out) (length l) refl)
in_list out (Err n) = refl

-- so the words that were put are the model's
pub listed_words_lem : (a : Listed) (list out : List ℕ) (o : Listing) → lent a list ≡ listed_in out o → listed_words a list ≡ words (to_list o)
listed_words_lem a list out o e = ap lent_words e ∙ in_list out o

-- so what was written on the tape `ws` is the model's answer: `vs` is the tape then, and `r` the place behind
pub listed_on : (a : Listed) (list out : List ℕ) (o : Listing) (ws vs : List ℕ) (at r : ℕ) → lent a list ≡ listed_in out o
    → ((us : List ℕ) → sets vs r us ≡ sets ws at (listed_words a list ++ us)) → (us : List ℕ) → sets vs r us ≡ sets ws at (words (to_list o) ++ us)
listed_on a list out o ws vs at r e p us = p us ∙ ap (λ (w : List ℕ). sets ws at (w ++ us)) (listed_words_lem a list out o e)
