-- `Vector::insert` meets its promise: the run from i on shifts by one, and x goes to slot i.
use Rattle.table.specs.Does.{does}
use Rattle.table.proofs.Laws.Shifted.{vector_insert_done}
use Rattle.vector.proofs.Told.{passed_on, refusals, shown_lit}
use Rattle.vector.proofs.Vector.insert.Goals as goal

pub returns-in_err-valid_on : goal.returns-in_err-valid_on
returns-in_err-valid_on c = passed_on c.from_residual.ensures.1 (search (refusals, c.in_err-valid_on.ensures))

pub returns-then-len-i : goal.returns-then-len-i
unfolding does
returns-then-len-i c = search (refusals, c.in_ok-valid_on.ensures)

pub returns-then-cap-len : goal.returns-then-cap-len
unfolding does
returns-then-cap-len c = search (refusals, c.in_ok-valid_on.ensures)

pub returns : goal.returns
unfolding does
returns c = search (vector_insert_done, shown_lit, c.in_ok-valid_on.ensures)
