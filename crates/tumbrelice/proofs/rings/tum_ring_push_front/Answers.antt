-- `tum_ring_push_front` meets its promise: what is heard of the call is what is seen of it.
use mathlib.Core.Path.{refl}
use Rattle.tumbrelice.proofs.Numbers.{ring_numbers}
use Rattle.tumbrelice.proofs.Words.{ring_fit, ring_hears}
use Rattle.tumbrelice.proofs.rings.tum_ring_push_front.Goals as goal

pub word-requires : goal.word-requires
word-requires c = ring_fit _ _ _ _ _ (ring_numbers _ _ _ _ _ _ c.in_numbers-a.ensures c.push_front.ensures) refl

pub returns : goal.returns
returns c = ring_hears _ _ _ _ _ _ _ _ c.ring_in-r.ensures.0 c.ring_in-r.ensures.1 (ring_numbers _ _ _ _ _ _ c.in_numbers-a.ensures c.push_front.ensures) c.ring_out.ensures c.word.ensures
