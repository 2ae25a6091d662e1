-- `flat_calls::next_message_id` meets its contract: the call below does the same, and its answer is flat.
use Rattle.flat.specs.Replies.{number_is}
use Rattle.flat.specs.Calls.{asks}
use Rattle.flat_calls.proofs.next_message_id.Goals as goal

pub returns : goal.returns
returns c = asks number_is c.number.ensures (c.next_message-answer.ensures c.args.cells.now)
