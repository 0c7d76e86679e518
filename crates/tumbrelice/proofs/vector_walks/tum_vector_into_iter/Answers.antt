-- `tum_vector_into_iter` meets its promise: it is `tum_vector_iter` by another name.
use Rattle.tumbrelice.proofs.Steps.{begins_into}
use Rattle.tumbrelice.proofs.vector_walks.tum_vector_into_iter.Goals as goal

pub returns : goal.returns
returns c = begins_into _ _ _ _ c.tum_vector_iter.ensures
