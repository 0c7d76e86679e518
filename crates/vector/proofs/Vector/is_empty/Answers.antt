-- `Vector::is_empty` meets its promise: nothing is stored, and the answer is a flag that is told as 1 or 0.
use Rattle.table.specs.Does.{does}
use Rattle.table.proofs.Laws.Looks.{empty_done}
use Rattle.vector.proofs.Told.{passed_on, refusals, stays}
use Rattle.vector.proofs.Vector.is_empty.Goals as goal

pub returns-in_err-valid_on : goal.returns-in_err-valid_on
returns-in_err-valid_on c = passed_on c.from_residual.ensures.1 (search (refusals, c.in_err-valid_on.ensures))

pub returns : goal.returns
unfolding does
returns c = search (empty_done, stays, c.in_ok-valid_on.ensures)
