-- `tum_ring_clone` meets its promise: what is heard of the call is what is seen of it.
use Rattle.tumbrelice.proofs.Numbers.{two_numbers}
use Rattle.tumbrelice.proofs.Twos.{two_fit, rings_cloned}
use Rattle.tumbrelice.proofs.two.tum_ring_clone.Goals as goal

pub word-requires : goal.word-requires
word-requires c = two_fit _ _ _ _ _ _ _ _ _ _ (two_numbers _ _ _ _ _ _ _ _ _ _ _ c.in_numbers-a.ensures c.clone.ensures)

pub returns : goal.returns
returns c = rings_cloned c.args.state.now _ _ _ _ _ _ _ _ _ c.ring_in-r.ensures.0 c.ring_in-r.ensures.1 c.ring_in-t.ensures.0 c.ring_in-t.ensures.1 (two_numbers _ _ _ _ _ _ _ _ _ _ _ c.in_numbers-a.ensures c.clone.ensures) c.ring_out.ensures c.word.ensures
