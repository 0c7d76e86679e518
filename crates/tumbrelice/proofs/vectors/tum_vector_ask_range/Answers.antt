-- `tum_vector_ask_range` meets its promise: what is heard of the call is what is seen of it.
use mathlib.Core.Path.{refl}
use Rattle.table.specs.Calls.{range}
use Rattle.tumbrelice.proofs.Numbers.{vector_numbers}
use Rattle.tumbrelice.proofs.Words.{vector_fit, vector_looked}
use Rattle.tumbrelice.proofs.vectors.tum_vector_ask_range.Goals as goal

pub word-requires : goal.word-requires
word-requires c = vector_fit _ _ _ _ _ (vector_numbers _ _ _ _ _ _ c.in_numbers-a.ensures c.ask_range.ensures) refl

pub returns : goal.returns
returns c = vector_looked (range c.args.a c.args.b) c.args.state.now _ _ _ _ c.vector_in-v.ensures.0 c.vector_in-v.ensures.1 (vector_numbers _ _ _ _ _ _ c.in_numbers-a.ensures c.ask_range.ensures) c.word.ensures
