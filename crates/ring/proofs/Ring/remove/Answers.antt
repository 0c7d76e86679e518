-- The entries before i close the gap or those behind it, a law for each.
use Rattle.table.proofs.Laws.Shifted.{remove_front_done, remove_back_done}
use Rattle.ring.proofs.Told.{passed_on, refusals, shown_lit}
use Rattle.ring.proofs.Ring.remove.Goals as goal

pub returns-in_err-holding : goal.returns-in_err-holding
returns-in_err-holding c = passed_on c.from_residual.ensures.1 (search (refusals, c.in_err-holding.ensures))

pub returns-then-i-last : goal.returns-then-i-last
returns-then-i-last c = search (remove_front_done, shown_lit, c.in_ok-holding.ensures)

pub returns : goal.returns
returns c = search (remove_back_done, shown_lit, c.in_ok-holding.ensures)
