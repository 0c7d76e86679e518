-- No slot is touched, and the list is empty.
use Rattle.table.specs.Does.{made}
use Rattle.table.proofs.Laws.Made.{with_capacity_done}
use Rattle.ring.proofs.Told.{refusals, shown}
use Rattle.ring.proofs.Ring.with_capacity.Goals as goal

pub returns-then-slots-gt-MOST : goal.returns-then-slots-gt-MOST
unfolding made
returns-then-slots-gt-MOST c = search refusals

pub returns-then-slots-k : goal.returns-then-slots-k
unfolding made
returns-then-slots-k c = search refusals

pub returns : goal.returns
unfolding made
returns c = search (with_capacity_done, shown)
