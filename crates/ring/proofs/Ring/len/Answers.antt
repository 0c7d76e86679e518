-- The state says how many entries there are.
use Rattle.table.proofs.Laws.Looks.{len_done}
use Rattle.ring.proofs.Told.{passed_on, refusals, stays}
use Rattle.ring.proofs.Ring.len.Goals as goal

pub returns-in_err-valid_on : goal.returns-in_err-valid_on
returns-in_err-valid_on c = passed_on c.from_residual.ensures.1 (search (refusals, c.in_err-valid_on.ensures))

pub returns : goal.returns
returns c = search (len_done, stays, c.in_ok-valid_on.ensures)
