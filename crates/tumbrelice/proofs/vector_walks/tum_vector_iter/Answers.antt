-- `tum_vector_iter` meets its promise: what is heard of the call is what is seen of it.
use mathlib.Core.Path.{refl}
use Rattle.table.specs.Calls.{iter}
use Rattle.tumbrelice.proofs.Numbers.{start_numbers}
use Rattle.tumbrelice.proofs.Steps.{step_fit, vector_began}
use Rattle.tumbrelice.proofs.vector_walks.tum_vector_iter.Goals as goal

pub word-requires : goal.word-requires
word-requires c = step_fit _ _ _ _ (start_numbers _ _ _ _ _ _ c.in_numbers-a.ensures c.none.ensures c.iter.ensures) refl

pub returns : goal.returns
returns c = vector_began iter c.args.state.now _ _ _ _ _ c.vector_in-v.ensures.0 (start_numbers _ _ _ _ _ _ c.in_numbers-a.ensures c.none.ensures c.iter.ensures) c.cursor_made.ensures c.word.ensures
