-- There is nothing to clear, or the run of all entries is filled with 0, a law for each.
use Rattle.table.proofs.Laws.Cut.{clear_none_done, clear_done}
use Rattle.ring.proofs.Told.{passed_on, refusals, stays, shown}
use Rattle.ring.proofs.Ring.clear.Goals as goal

pub returns-in_err-valid_on : goal.returns-in_err-valid_on
returns-in_err-valid_on c = passed_on c.from_residual.ensures.1 (search (refusals, c.in_err-valid_on.ensures))

pub returns-then-len-eq0 : goal.returns-then-len-eq0
returns-then-len-eq0 c = search (clear_none_done, stays, c.in_ok-valid_on.ensures)

pub returns : goal.returns
returns c = search (clear_done, shown, c.in_ok-valid_on.ensures)
