-- As `remove`, by the same laws, and 12 where the side that would shift has more entries than allowed.
use Rattle.table.proofs.Laws.Shifted.{remove_front_done, remove_back_done}
use Rattle.ring.proofs.Told.{passed_on_within, refusals_within, more_within, shown_within}
use Rattle.ring.proofs.Ring.remove_within.Goals as goal

pub returns-in_err-holding : goal.returns-in_err-holding
returns-in_err-holding c = passed_on_within c.from_residual.ensures.1 (search (refusals_within, c.in_err-holding.ensures))

pub returns-then-allowance-i : goal.returns-then-allowance-i
returns-then-allowance-i c = search (more_within, c.in_ok-holding.ensures)

pub returns-then-i-last : goal.returns-then-i-last
returns-then-i-last c = search (remove_front_done, shown_within, c.in_ok-holding.ensures)

pub returns-then-allowance-last : goal.returns-then-allowance-last
returns-then-allowance-last c = search (more_within, c.in_ok-holding.ensures)

pub returns : goal.returns
returns c = search (remove_back_done, shown_within, c.in_ok-holding.ensures)
