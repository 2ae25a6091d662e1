-- The queue's answer.
use Rattle.stream_table.specs.Tables.{table_of}
use Rattle.sender_head.specs.Whole.{halves}
use Rattle.sender_asks.proofs.next_message.Goals as goal

pub returns : goal.returns
returns c = let h = c.args.h.now in λ ws. c.next_message_id.ensures (table_of h.streams (halves ws).table) (halves ws).queue
