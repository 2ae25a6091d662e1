-- A ring of length 0 holds nothing, whatever the words are.
use Rattle.std.proofs.Common.{ℕ, List, sym, ap, arith}
use Rattle.model.specs.Rings.{bytes}
use Rattle.ring.specs.Held.{held_none}
use Rattle.payload_queue.specs.Queue.{least_due}
use Rattle.payload_queue.specs.Cases.{entries_are}
use Rattle.payload_queue.proofs.PayloadQueue.new.Goals as goal

pub returns : goal.returns
returns c = λ (ws : List ℕ). let e = held_none c.default.result ws (omega arith) in (entries_are c.args.oldest e, (sym (ap bytes e), omega (arith, ap least_due e)))
