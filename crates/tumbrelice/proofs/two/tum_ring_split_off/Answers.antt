-- `tum_ring_split_off` meets its promise: what is heard of the call is what is seen of it.
use Rattle.tumbrelice.proofs.Numbers.{two_numbers}
use Rattle.tumbrelice.proofs.Twos.{two_fit, rings_hear}
use Rattle.tumbrelice.proofs.two.tum_ring_split_off.Goals as goal

pub word-requires : goal.word-requires
word-requires c = two_fit _ _ _ _ _ _ _ _ _ _ (two_numbers _ _ _ _ _ _ _ _ _ _ _ c.in_numbers-a.ensures c.split_off.ensures)

pub returns : goal.returns
returns c = rings_hear _ _ _ _ _ _ _ _ _ _ _ _ _ c.ring_in-r.ensures.0 c.ring_in-r.ensures.1 c.ring_in-t.ensures.0 c.ring_in-t.ensures.1 (two_numbers _ _ _ _ _ _ _ _ _ _ _ c.in_numbers-a.ensures c.split_off.ensures) c.ring_out.ensures c.ring_out-2.ensures c.word.ensures
