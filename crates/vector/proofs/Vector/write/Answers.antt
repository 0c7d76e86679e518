-- `Vector::write` meets its promise: one store in slot i.
use Rattle.table.specs.Does.{does}
use Rattle.table.proofs.Laws.VectorDone.{vector_write_done}
use Rattle.vector.proofs.Told.{passed_on, refusals, shown_lit}
use Rattle.vector.proofs.Vector.write.Goals as goal

pub returns-in_err-holding : goal.returns-in_err-holding
returns-in_err-holding c = passed_on c.from_residual.ensures.1 (search (refusals, c.in_err-holding.ensures))

pub returns : goal.returns
unfolding does
returns c = search (vector_write_done, shown_lit, c.in_ok-holding.ensures)
