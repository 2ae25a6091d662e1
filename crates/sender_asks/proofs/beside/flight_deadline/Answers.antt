-- Of the flight's third of the cells.
use Rattle.sender_asks.proofs.beside.flight_deadline.Goals as goal

pub returns : goal.returns
returns c = c.soonest_of.ensures
