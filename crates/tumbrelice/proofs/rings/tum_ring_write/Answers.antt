-- `tum_ring_write` meets its promise: what is heard of the call is what is seen of it. The head and the length stay.
use mathlib.Core.Path.{refl}
use Rattle.tumbrelice.proofs.Numbers.{ring_numbers}
use Rattle.tumbrelice.proofs.Words.{ring_fit, ring_hears}
use Rattle.tumbrelice.proofs.Staying.{ring_written_head, ring_written_len}
use Rattle.tumbrelice.proofs.rings.tum_ring_write.Goals as goal

pub ring_weighs-requires : goal.ring_weighs-requires
ring_weighs-requires c = λ zero. (ring_written_head _ _ c.args.state.now _ _ _ _ (ring_numbers _ _ _ _ _ _ c.in_numbers-a.ensures c.write.ensures) c.ring_in-r.ensures.0 zero, ring_written_len _ _ c.args.state.now _ _ _ _ (ring_numbers _ _ _ _ _ _ c.in_numbers-a.ensures c.write.ensures) c.ring_in-r.ensures.0 zero)

pub word-requires : goal.word-requires
word-requires c = ring_fit _ _ _ _ _ (ring_numbers _ _ _ _ _ _ c.in_numbers-a.ensures c.write.ensures) refl

pub returns : goal.returns
returns c = ring_hears _ _ _ _ _ _ _ _ c.ring_in-r.ensures.0 c.ring_in-r.ensures.1 (ring_numbers _ _ _ _ _ _ c.in_numbers-a.ensures c.write.ensures) c.ring_weighs.ensures c.word.ensures
