-- The entries before i shift or those from i on, a law for each, and x goes between.
use Rattle.table.specs.Does.{does}
use Rattle.table.proofs.Laws.Shifted.{insert_front_done, insert_back_done}
use Rattle.ring.proofs.Told.{passed_on, refusals, shown_lit}
use Rattle.ring.proofs.Ring.insert.Goals as goal

pub returns-in_err-valid_on : goal.returns-in_err-valid_on
returns-in_err-valid_on c = passed_on c.from_residual.ensures.1 (search (refusals, c.in_err-valid_on.ensures))

pub returns-then-len-i : goal.returns-then-len-i
unfolding does
returns-then-len-i c = search (refusals, c.in_ok-valid_on.ensures)

pub returns-then-cap-len : goal.returns-then-cap-len
unfolding does
returns-then-cap-len c = search (refusals, c.in_ok-valid_on.ensures)

pub returns-then-i-len : goal.returns-then-i-len
returns-then-i-len c = search (insert_front_done, shown_lit, c.in_ok-valid_on.ensures)

pub returns : goal.returns
returns c = search (insert_back_done, shown_lit, c.in_ok-valid_on.ensures)
