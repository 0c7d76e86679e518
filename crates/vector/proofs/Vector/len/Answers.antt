-- `Vector::len` meets its promise: nothing is stored, and the length is the list's.
use Rattle.table.specs.Does.{does}
use Rattle.table.proofs.Laws.Looks.{len_done}
use Rattle.vector.proofs.Told.{passed_on, refusals, stays}
use Rattle.vector.proofs.Vector.len.Goals as goal

pub returns-in_err-valid_on : goal.returns-in_err-valid_on
returns-in_err-valid_on c = passed_on c.from_residual.ensures.1 (search (refusals, c.in_err-valid_on.ensures))

pub returns : goal.returns
unfolding does
returns c = search (len_done, stays, c.in_ok-valid_on.ensures)
