-- A start below the room is its own remainder.
use mathlib.Core.Path.{sym}
use native.Mathlib.Nat.{mod-eq_of_lt}
use Rattle.ring.proofs.fold.Goals as goal

pub returns-then-start-room : goal.returns-then-start-room
returns-then-start-room c = sym (mod-eq_of_lt c.if-start-room.true)
