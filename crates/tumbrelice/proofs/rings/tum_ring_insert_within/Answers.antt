-- `tum_ring_insert_within` meets its promise: what is heard of the call is what is seen of it.
use mathlib.Core.Path.{refl}
use Rattle.tumbrelice.proofs.Numbers.{within_numbers}
use Rattle.tumbrelice.proofs.Words.{within_fit, ring_hears_within}
use Rattle.tumbrelice.proofs.rings.tum_ring_insert_within.Goals as goal

pub word-requires : goal.word-requires
word-requires c = within_fit _ _ _ _ _ _ (within_numbers _ _ _ _ _ _ _ c.in_numbers-a.ensures c.insert_within.ensures) refl

pub returns : goal.returns
returns c = ring_hears_within _ _ _ _ _ _ _ _ _ c.ring_in-r.ensures.0 c.ring_in-r.ensures.1 (within_numbers _ _ _ _ _ _ _ c.in_numbers-a.ensures c.insert_within.ensures) c.ring_out.ensures c.word.ensures
