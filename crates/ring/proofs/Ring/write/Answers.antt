-- One store in the slot of position i.
use Rattle.table.proofs.Laws.Stores.{write_done}
use Rattle.ring.proofs.Told.{passed_on, refusals, shown_lit}
use Rattle.ring.proofs.Ring.write.Goals as goal

pub returns-in_err-holding : goal.returns-in_err-holding
returns-in_err-holding c = passed_on c.from_residual.ensures.1 (search (refusals, c.in_err-holding.ensures))

pub returns : goal.returns
returns c = search (write_done, shown_lit, c.in_ok-holding.ensures)
