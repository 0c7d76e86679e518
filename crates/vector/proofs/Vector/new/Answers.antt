-- `Vector::new` meets its promise: no slot is touched, and the list is empty.
use Rattle.table.specs.Does.{made}
use Rattle.table.proofs.Laws.Made.{new_done}
use Rattle.vector.proofs.Told.{refusals, shown}
use Rattle.vector.proofs.Vector.new.Goals as goal

pub returns-then-slots-gt-MOST : goal.returns-then-slots-gt-MOST
unfolding made
returns-then-slots-gt-MOST c = search refusals

pub returns : goal.returns
unfolding made
returns c = search (new_done, shown)
