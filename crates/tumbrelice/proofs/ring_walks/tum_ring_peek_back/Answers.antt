-- `tum_ring_peek_back` meets its promise: what is heard of the call is what is seen of it. The cursor stays.
use mathlib.Core.Path.{refl}
use Rattle.table.specs.Calls.{peek_back}
use Rattle.tumbrelice.proofs.Numbers.{step_numbers}
use Rattle.tumbrelice.proofs.Steps.{step_fit, ring_peeked}
use Rattle.tumbrelice.proofs.ring_walks.tum_ring_peek_back.Goals as goal

pub word-requires : goal.word-requires
word-requires c = step_fit _ _ _ _ (step_numbers _ _ _ _ _ _ c.in_numbers-a.ensures c.peek_back.ensures) refl

pub returns : goal.returns
returns c = ring_peeked (λ u. peek_back u c.args.k) (λ u t. refl) (λ u t. refl) c.args.state.now _ c.args.cursor.now _ _ _ _ c.ring_in-r.ensures.0 c.cursor_in-u.ensures (step_numbers _ _ _ _ _ _ c.in_numbers-a.ensures c.peek_back.ensures) c.word.ensures
