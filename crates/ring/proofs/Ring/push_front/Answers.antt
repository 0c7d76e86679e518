-- One store in the slot before the head, which was free.
use Rattle.table.proofs.Laws.Stores.{push_front_done}
use Rattle.ring.proofs.Told.{passed_on, refusals, shown_lit}
use Rattle.ring.proofs.Ring.push_front.Goals as goal

pub returns-in_err-roomy : goal.returns-in_err-roomy
returns-in_err-roomy c = passed_on c.from_residual.ensures.1 (search (refusals, c.in_err-roomy.ensures))

pub returns : goal.returns
returns c = search (push_front_done, shown_lit, c.in_ok-roomy.ensures)
