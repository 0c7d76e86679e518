-- `Vector::clear` meets its promise: the run of all entries is filled with 0.
use Rattle.table.specs.Does.{does}
use Rattle.table.proofs.Laws.Cut.{clear_done}
use Rattle.vector.proofs.Told.{passed_on, refusals, shown}
use Rattle.vector.proofs.Vector.clear.Goals as goal

pub returns-in_err-valid_on : goal.returns-in_err-valid_on
returns-in_err-valid_on c = passed_on c.from_residual.ensures.1 (search (refusals, c.in_err-valid_on.ensures))

pub returns : goal.returns
unfolding does
returns c = search (clear_done, shown, c.in_ok-valid_on.ensures)
