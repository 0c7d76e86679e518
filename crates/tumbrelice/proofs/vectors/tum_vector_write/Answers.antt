-- `tum_vector_write` meets its promise: what is heard of the call is what is seen of it. The length stays.
use mathlib.Core.Path.{refl}
use Rattle.tumbrelice.proofs.Numbers.{vector_numbers}
use Rattle.tumbrelice.proofs.Words.{vector_fit, vector_hears}
use Rattle.tumbrelice.proofs.Staying.{vector_written}
use Rattle.tumbrelice.proofs.vectors.tum_vector_write.Goals as goal

pub vector_weighs-requires : goal.vector_weighs-requires
vector_weighs-requires c = vector_written _ _ c.args.state.now _ _ _ _ (vector_numbers _ _ _ _ _ _ c.in_numbers-a.ensures c.write.ensures) c.vector_in-v.ensures.0

pub word-requires : goal.word-requires
word-requires c = vector_fit _ _ _ _ _ (vector_numbers _ _ _ _ _ _ c.in_numbers-a.ensures c.write.ensures) refl

pub returns : goal.returns
returns c = vector_hears _ _ _ _ _ _ _ _ c.vector_in-v.ensures.0 c.vector_in-v.ensures.1 (vector_numbers _ _ _ _ _ _ c.in_numbers-a.ensures c.write.ensures) c.vector_weighs.ensures c.word.ensures
