-- `tum_vector_extend_from_slice` meets its promise: what is heard of the call is what is seen of it.
use mathlib.Core.Path.{refl}
use Rattle.tumbrelice.proofs.Numbers.{vector_numbers}
use Rattle.tumbrelice.proofs.Words.{vector_fit, vector_hears}
use Rattle.tumbrelice.proofs.vectors.tum_vector_extend_from_slice.Goals as goal

pub word-requires : goal.word-requires
word-requires c = vector_fit _ _ _ _ _ (vector_numbers _ _ _ _ _ _ c.in_numbers-a.ensures c.extend_from_slice.ensures) refl

pub returns : goal.returns
returns c = vector_hears _ _ _ _ _ _ _ _ c.vector_in-v.ensures.0 c.vector_in-v.ensures.1 (vector_numbers _ _ _ _ _ _ c.in_numbers-a.ensures c.extend_from_slice.ensures) c.vector_out.ensures c.word.ensures
