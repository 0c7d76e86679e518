-- As `insert`, by the same laws, and 12 where the side that would shift has more entries than allowed.
use Rattle.table.specs.Does.{does}
use Rattle.table.proofs.Laws.Shifted.{insert_front_done, insert_back_done}
use Rattle.ring.proofs.Told.{passed_on_within, refusals_within, more_within, shown_within}
use Rattle.ring.proofs.Ring.insert_within.Goals as goal

pub returns-in_err-valid_on : goal.returns-in_err-valid_on
returns-in_err-valid_on c = passed_on_within c.from_residual.ensures.1 (search (refusals_within, c.in_err-valid_on.ensures))

pub returns-then-len-i : goal.returns-then-len-i
unfolding does
returns-then-len-i c = search (refusals_within, c.in_ok-valid_on.ensures)

pub returns-then-cap-len : goal.returns-then-cap-len
unfolding does
returns-then-cap-len c = search (refusals_within, c.in_ok-valid_on.ensures)

pub returns-then-allowance-i : goal.returns-then-allowance-i
returns-then-allowance-i c = search (more_within, c.in_ok-valid_on.ensures)

pub returns-then-i-len : goal.returns-then-i-len
returns-then-i-len c = search (insert_front_done, shown_within, c.in_ok-valid_on.ensures)

pub returns-then-allowance-len : goal.returns-then-allowance-len
returns-then-allowance-len c = search (more_within, c.in_ok-valid_on.ensures)

pub returns : goal.returns
returns c = search (insert_back_done, shown_within, c.in_ok-valid_on.ensures)
