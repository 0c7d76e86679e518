-- What the state leaves of the slots is compared.
use Rattle.table.specs.Does.{does}
use Rattle.table.proofs.Laws.Looks.{reserve_done}
use Rattle.ring.proofs.Told.{passed_on, refusals, stays}
use Rattle.ring.proofs.Ring.reserve.Goals as goal

pub returns-in_err-valid_on : goal.returns-in_err-valid_on
returns-in_err-valid_on c = passed_on c.from_residual.ensures.1 (search (refusals, c.in_err-valid_on.ensures))

pub returns-then-cap-self : goal.returns-then-cap-self
unfolding does
returns-then-cap-self c = search (refusals, c.in_ok-valid_on.ensures)

pub returns : goal.returns
returns c = search (reserve_done, stays, c.in_ok-valid_on.ensures)
