-- `tum_vector_try_reserve_exact` meets its promise: what is heard of the call is what is seen of it.
use mathlib.Core.Path.{refl}
use Rattle.table.specs.Calls.{try_reserve_exact}
use Rattle.tumbrelice.proofs.Numbers.{vector_numbers}
use Rattle.tumbrelice.proofs.Words.{vector_fit, vector_looked}
use Rattle.tumbrelice.proofs.vectors.tum_vector_try_reserve_exact.Goals as goal

pub word-requires : goal.word-requires
word-requires c = vector_fit _ _ _ _ _ (vector_numbers _ _ _ _ _ _ c.in_numbers-a.ensures c.try_reserve_exact.ensures) refl

pub returns : goal.returns
returns c = vector_looked (try_reserve_exact c.args.k) c.args.state.now _ _ _ _ c.vector_in-v.ensures.0 c.vector_in-v.ensures.1 (vector_numbers _ _ _ _ _ _ c.in_numbers-a.ensures c.try_reserve_exact.ensures) c.word.ensures
