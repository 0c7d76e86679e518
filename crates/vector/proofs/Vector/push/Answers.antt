-- `Vector::push` meets its promise: one store in slot n, which was free.
use Rattle.table.specs.Does.{does}
use Rattle.table.proofs.Laws.Stores.{vector_push_done}
use Rattle.vector.proofs.Told.{passed_on, refusals, shown_lit}
use Rattle.vector.proofs.Vector.push.Goals as goal

pub returns-in_err-roomy : goal.returns-in_err-roomy
returns-in_err-roomy c = passed_on c.from_residual.ensures.1 (search (refusals, c.in_err-roomy.ensures))

pub returns : goal.returns
unfolding does
returns c = search (vector_push_done, shown_lit, c.in_ok-roomy.ensures)
