-- `Vector::read` meets its promise: slot i holds the entry of position i.
use Rattle.table.specs.Does.{does}
use Rattle.table.proofs.Laws.Looks.{vector_read_done}
use Rattle.vector.proofs.Told.{passed_on, refusals, stays_lit}
use Rattle.vector.proofs.Vector.read.Goals as goal

pub returns-in_err-holding : goal.returns-in_err-holding
returns-in_err-holding c = passed_on c.from_residual.ensures.1 (search (refusals, c.in_err-holding.ensures))

pub returns : goal.returns
unfolding does
returns c = search (vector_read_done, stays_lit, c.in_ok-holding.ensures)
