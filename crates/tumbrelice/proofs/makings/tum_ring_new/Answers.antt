-- `tum_ring_new` meets its promise: what is heard of the call is what is seen of it.
use Rattle.tumbrelice.proofs.Numbers.{ring_made_numbers}
use Rattle.tumbrelice.proofs.Words.{ring_made_fit, ring_made_heard}
use Rattle.tumbrelice.proofs.makings.tum_ring_new.Goals as goal

pub word-requires : goal.word-requires
word-requires c = ring_made_fit _ _ _ _ (ring_made_numbers _ _ _ _ _ _ c.in_numbers-a.ensures c.no_ring.ensures c.new.ensures)

pub returns : goal.returns
returns c = ring_made_heard _ _ _ _ _ _ (ring_made_numbers _ _ _ _ _ _ c.in_numbers-a.ensures c.no_ring.ensures c.new.ensures) c.ring_made.ensures c.word.ensures
