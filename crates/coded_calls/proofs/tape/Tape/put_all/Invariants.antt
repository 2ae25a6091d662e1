-- One behind the other, and the rest is still to come.
use Rattle.std.proofs.Common.{◌≡◌, List, ◌++◌, ℕ, drop}
use Rattle.std.proofs.lemmas.List.Edits.{sets}
use Rattle.coded_calls.proofs.tape.Tape.put_all.Given as goal

abbrev pub invariant-loop-word : goal.invariant-loop-word
invariant-loop-word l =
    (l.self.words.ghost_name ≡ l.initial.self.words.ghost_name)
    × ((us : List ℕ) → sets l.self.words.now l.self.at (drop l.word-index l.words ++ us) ≡ sets l.initial.self.words.now l.initial.self.at (l.words ++ us))
