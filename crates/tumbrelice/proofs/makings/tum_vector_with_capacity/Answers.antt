-- `tum_vector_with_capacity` meets its promise: what is heard of the call is what is seen of it.
use Rattle.tumbrelice.proofs.Numbers.{vector_made_numbers}
use Rattle.tumbrelice.proofs.Words.{vector_made_fit, vector_made_heard}
use Rattle.tumbrelice.proofs.makings.tum_vector_with_capacity.Goals as goal

pub word-requires : goal.word-requires
word-requires c = vector_made_fit _ _ _ _ (vector_made_numbers _ _ _ _ _ _ c.in_numbers-a.ensures c.no_vector.ensures c.with_capacity.ensures)

pub returns : goal.returns
returns c = vector_made_heard _ _ _ _ _ _ (vector_made_numbers _ _ _ _ _ _ c.in_numbers-a.ensures c.no_vector.ensures c.with_capacity.ensures) c.vector_made.ensures c.word.ensures
