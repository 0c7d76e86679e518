-- `Vector::from_elem` meets its promise: the run of the first k slots is filled with x.
use Rattle.table.specs.Does.{made}
use Rattle.table.proofs.Laws.Made.{from_elem_done}
use Rattle.vector.proofs.Told.{refusals, shown}
use Rattle.vector.proofs.Vector.from_elem.Goals as goal

pub returns-then-cap-gt-MOST : goal.returns-then-cap-gt-MOST
unfolding made
returns-then-cap-gt-MOST c = search refusals

pub returns-then-cap-k : goal.returns-then-cap-k
unfolding made
returns-then-cap-k c = search refusals

pub returns : goal.returns
unfolding made
returns c = search (from_elem_done, shown)
