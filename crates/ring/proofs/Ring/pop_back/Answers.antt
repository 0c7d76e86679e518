-- One store of 0 in the slot of the last position.
use Rattle.table.proofs.Laws.Stores.{pop_done}
use Rattle.ring.proofs.Told.{passed_on, refusals, shown_lit}
use Rattle.ring.proofs.Ring.pop_back.Goals as goal

pub returns-in_err-holding : goal.returns-in_err-holding
returns-in_err-holding c = passed_on c.from_residual.ensures.1 (search (refusals, c.in_err-holding.ensures))

pub returns : goal.returns
returns c = search (pop_done, shown_lit, c.in_ok-holding.ensures)
