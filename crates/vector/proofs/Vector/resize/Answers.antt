-- `Vector::resize` meets its promise: the run that goes is filled with 0, or that which comes with x, a law for each.
use Rattle.table.specs.Does.{does}
use Rattle.table.proofs.Laws.Cut.{resize_cut_done}
use Rattle.table.proofs.Laws.VectorDone.{vector_resize_more_done}
use Rattle.vector.proofs.Told.{passed_on, refusals, shown}
use Rattle.vector.proofs.Vector.resize.Goals as goal

pub returns-in_err-valid_on : goal.returns-in_err-valid_on
returns-in_err-valid_on c = passed_on c.from_residual.ensures.1 (search (refusals, c.in_err-valid_on.ensures))

pub returns-then-cap-k : goal.returns-then-cap-k
unfolding does
returns-then-cap-k c = search (refusals, c.in_ok-valid_on.ensures)

pub returns-then-k-len : goal.returns-then-k-len
unfolding does
returns-then-k-len c = search (resize_cut_done, shown, c.in_ok-valid_on.ensures)

pub returns : goal.returns
unfolding does
returns c = search (vector_resize_more_done, shown, c.in_ok-valid_on.ensures)
