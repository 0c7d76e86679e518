-- `Vector::with_capacity` meets its promise: its two refusals in their order; no slot is touched, and the list is empty.
use Rattle.table.specs.Does.{made}
use Rattle.table.proofs.Laws.Made.{with_capacity_done}
use Rattle.vector.proofs.Told.{refusals, shown}
use Rattle.vector.proofs.Vector.with_capacity.Goals as goal

pub returns-then-cap-gt-MOST : goal.returns-then-cap-gt-MOST
unfolding made
returns-then-cap-gt-MOST c = search refusals

pub returns-then-cap-capacity : goal.returns-then-cap-capacity
unfolding made
returns-then-cap-capacity c = search refusals

pub returns : goal.returns
unfolding made
returns c = search (with_capacity_done, shown)
