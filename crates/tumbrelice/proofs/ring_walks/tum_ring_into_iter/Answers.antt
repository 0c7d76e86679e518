-- `tum_ring_into_iter` meets its promise: it is `tum_ring_iter` by another name.
use Rattle.tumbrelice.proofs.Steps.{begins_into}
use Rattle.tumbrelice.proofs.ring_walks.tum_ring_into_iter.Goals as goal

pub returns : goal.returns
returns c = begins_into _ _ _ _ c.tum_ring_iter.ensures
