-- `Vector::extend_from_slice` meets its promise: the run behind the entries gets a copy of the slice, which is added up on the way.
use Rattle.table.specs.Does.{does}
use Rattle.table.proofs.Laws.Cut.{extend_done}
use Rattle.vector.proofs.Told.{passed_on, refusals, shown}
use Rattle.vector.proofs.Vector.extend_from_slice.Goals as goal

pub returns-in_err-valid_on : goal.returns-in_err-valid_on
returns-in_err-valid_on c = passed_on c.from_residual.ensures.1 (search (refusals, c.in_err-valid_on.ensures))

pub returns-then-cap-len : goal.returns-then-cap-len
unfolding does
returns-then-cap-len c = search (refusals, c.in_ok-valid_on.ensures)

pub returns : goal.returns
unfolding does
returns c = search (extend_done, shown, c.in_ok-valid_on.ensures)
