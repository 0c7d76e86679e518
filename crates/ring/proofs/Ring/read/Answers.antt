-- The slot of position i holds its entry.
use Rattle.table.proofs.Laws.Looks.{read_done}
use Rattle.ring.proofs.Told.{passed_on, refusals, stays_lit}
use Rattle.ring.proofs.Ring.read.Goals as goal

pub returns-in_err-holding : goal.returns-in_err-holding
returns-in_err-holding c = passed_on c.from_residual.ensures.1 (search (refusals, c.in_err-holding.ensures))

pub returns : goal.returns
returns c = search (read_done, stays_lit, c.in_ok-holding.ensures)
