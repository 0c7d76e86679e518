-- `tum_vector_step_back` meets its promise: what is heard of the call is what is seen of it.
use mathlib.Core.Path.{refl}
use Rattle.table.specs.Calls.{step_back}
use Rattle.tumbrelice.proofs.Numbers.{step_numbers}
use Rattle.tumbrelice.proofs.Steps.{step_fit, vector_stepped}
use Rattle.tumbrelice.proofs.vector_walks.tum_vector_step_back.Goals as goal

pub word-requires : goal.word-requires
word-requires c = step_fit _ _ _ _ (step_numbers _ _ _ _ _ _ c.in_numbers-a.ensures c.step_back.ensures) refl

pub returns : goal.returns
returns c = vector_stepped step_back (λ u t. refl) c.args.state.now _ c.args.cursor.now _ _ _ _ _ c.vector_in-v.ensures.0 c.cursor_in-u.ensures (step_numbers _ _ _ _ _ _ c.in_numbers-a.ensures c.step_back.ensures) c.word.ensures c.cursor_out.ensures
