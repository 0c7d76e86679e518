-- There is nothing to drop, or the run from k on is filled with 0, a law for each.
use Rattle.table.proofs.Laws.Cut.{truncate_same_done, truncate_done}
use Rattle.ring.proofs.Told.{passed_on, refusals, stays, shown}
use Rattle.ring.proofs.Ring.truncate.Goals as goal

pub returns-in_err-valid_on : goal.returns-in_err-valid_on
returns-in_err-valid_on c = passed_on c.from_residual.ensures.1 (search (refusals, c.in_err-valid_on.ensures))

pub returns-then-len-k : goal.returns-then-len-k
returns-then-len-k c = search (truncate_same_done, stays, c.in_ok-valid_on.ensures)

pub returns : goal.returns
returns c = search (truncate_done, shown, c.in_ok-valid_on.ensures)
