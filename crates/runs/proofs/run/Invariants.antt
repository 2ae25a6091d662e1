-- Between two requests the state is one that requests have reached, so that each is the model's; the rest of the list is still to come.
use Rattle.std.proofs.Common.{◌≡◌, length}
use Rattle.std.specs.Slice.Iter.{chunks_exact_rest, chunks_exact_size}
use Rattle.model.specs.State.{fresh}
use Rattle.sender_head.specs.Whole.{room_in, sender_of, Counted}
use Rattle.runs.specs.Runs.{requests_in}
use Rattle.runs.specs.Going.{Going}
use Rattle.runs.proofs.run.Given as goal

abbrev pub invariant-loop-words : goal.invariant-loop-words
invariant-loop-words l = record {
  same_reference : l.tape.words.ghost_name ≡ l.initial.tape.words.ghost_name;
  eights : chunks_exact_size l.words-iterator ≡ 8;
  cells : length l.cells ≡ length l.initial.cells;
  counted : Counted l.head l.cells;
  going : Going (room_in l.initial.cells) (fresh l.tsn l.number) (requests_in l.coded l.bytes) (requests_in (chunks_exact_rest l.words-iterator) l.bytes) (sender_of l.head l.cells) l.initial.tape.words.now l.tape.words.now l.tape.at;
}
