-- `Vector::ask_range` meets its promise: nothing is stored, and a range that is astray is the row's one refusal.
use Rattle.table.specs.Does.{does}
use Rattle.table.proofs.Laws.Looks.{range_done}
use Rattle.vector.proofs.Told.{passed_on, refusals, stays}
use Rattle.vector.proofs.Vector.ask_range.Goals as goal

pub returns-in_err-valid_on : goal.returns-in_err-valid_on
returns-in_err-valid_on c = passed_on c.from_residual.ensures.1 (search (refusals, c.in_err-valid_on.ensures))

pub returns-then-astray : goal.returns-then-astray
unfolding does
returns-then-astray c = search (refusals, c.in_ok-valid_on.ensures)

pub returns : goal.returns
unfolding does
returns c = search (range_done, stays, c.in_ok-valid_on.ensures)
