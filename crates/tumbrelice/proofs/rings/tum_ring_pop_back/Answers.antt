-- `tum_ring_pop_back` meets its promise: what is heard of the call is what is seen of it. The head stays, unless nothing is left.
use mathlib.Core.Path.{refl}
use Rattle.table.specs.Calls.{pop}
use Rattle.tumbrelice.proofs.Numbers.{ring_numbers}
use Rattle.tumbrelice.proofs.Words.{ring_fit, ring_hears}
use Rattle.tumbrelice.proofs.Staying.{head_rests}
use Rattle.tumbrelice.proofs.rings.tum_ring_pop_back.Goals as goal

pub ring_stays-requires : goal.ring_stays-requires
ring_stays-requires c = head_rests pop c.args.state.now _ _ _ _ (ring_numbers _ _ _ _ _ _ c.in_numbers-a.ensures c.pop_back.ensures) c.ring_in-r.ensures.0 (λ t. refl)

pub word-requires : goal.word-requires
word-requires c = ring_fit _ _ _ _ _ (ring_numbers _ _ _ _ _ _ c.in_numbers-a.ensures c.pop_back.ensures) refl

pub returns : goal.returns
returns c = ring_hears _ _ _ _ _ _ _ _ c.ring_in-r.ensures.0 c.ring_in-r.ensures.1 (ring_numbers _ _ _ _ _ _ c.in_numbers-a.ensures c.pop_back.ensures) c.ring_stays.ensures c.word.ensures
