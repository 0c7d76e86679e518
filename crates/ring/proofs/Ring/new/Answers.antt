-- No slot is touched, and the list is empty.
use Rattle.table.specs.Does.{made}
use Rattle.table.proofs.Laws.Made.{new_done}
use Rattle.ring.proofs.Told.{refusals, shown}
use Rattle.ring.proofs.Ring.new.Goals as goal

pub returns-then-cap-gt-MOST : goal.returns-then-cap-gt-MOST
unfolding made
returns-then-cap-gt-MOST c = search refusals

pub returns : goal.returns
unfolding made
returns c = search (new_done, shown)
