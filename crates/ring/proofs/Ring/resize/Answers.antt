-- The run from k on is filled with 0, or that up to k with x, or there is nothing to do, a law for each.
use Rattle.table.specs.Does.{does}
use Rattle.table.proofs.Laws.Cut.{resize_cut_done, resize_more_done, resize_same_done}
use Rattle.ring.proofs.Told.{passed_on, refusals, stays, shown}
use Rattle.ring.proofs.Ring.resize.Goals as goal

pub returns-in_err-valid_on : goal.returns-in_err-valid_on
returns-in_err-valid_on c = passed_on c.from_residual.ensures.1 (search (refusals, c.in_err-valid_on.ensures))

pub returns-then-cap-k : goal.returns-then-cap-k
unfolding does
returns-then-cap-k c = search (refusals, c.in_ok-valid_on.ensures)

pub returns-then-k-len : goal.returns-then-k-len
returns-then-k-len c = search (resize_cut_done, shown, c.in_ok-valid_on.ensures)

pub returns-then-len-k : goal.returns-then-len-k
returns-then-len-k c = search (resize_more_done, shown, c.in_ok-valid_on.ensures)

pub returns : goal.returns
returns c = search (resize_same_done, stays, c.in_ok-valid_on.ensures)
