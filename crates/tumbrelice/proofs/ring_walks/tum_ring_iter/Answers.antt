-- `tum_ring_iter` meets its promise: what is heard of the call is what is seen of it.
use mathlib.Core.Path.{refl}
use Rattle.table.specs.Calls.{iter}
use Rattle.tumbrelice.proofs.Numbers.{start_numbers}
use Rattle.tumbrelice.proofs.Steps.{step_fit, ring_began}
use Rattle.tumbrelice.proofs.ring_walks.tum_ring_iter.Goals as goal

pub word-requires : goal.word-requires
word-requires c = step_fit _ _ _ _ (start_numbers _ _ _ _ _ _ c.in_numbers-a.ensures c.none.ensures c.iter.ensures) refl

pub returns : goal.returns
returns c = ring_began iter c.args.state.now _ _ _ _ _ c.ring_in-r.ensures.0 (start_numbers _ _ _ _ _ _ c.in_numbers-a.ensures c.none.ensures c.iter.ensures) c.cursor_made.ensures c.word.ensures
