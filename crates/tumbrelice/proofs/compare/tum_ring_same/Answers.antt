-- `tum_ring_same` meets its promise: what is heard of the call is what is seen of it, and both containers are as they were.
use Rattle.tumbrelice.proofs.Numbers.{two_numbers}
use Rattle.tumbrelice.proofs.Twos.{two_fit}
use Rattle.tumbrelice.proofs.Compared.{rings_compared}
use Rattle.tumbrelice.proofs.compare.tum_ring_same.Goals as goal

pub word-requires : goal.word-requires
word-requires c = two_fit _ _ _ _ _ _ _ _ _ _ (two_numbers _ _ _ _ _ _ _ _ _ _ _ c.in_numbers-a.ensures c.same.ensures)

pub returns : goal.returns
returns c = rings_compared c.args.state.now c.args.other.now _ _ _ _ _ _ c.ring_in-r.ensures.0 c.ring_in-t.ensures.0 c.ring_in-r.ensures.1 c.ring_in-t.ensures.1 (two_numbers _ _ _ _ _ _ _ _ _ _ _ c.in_numbers-a.ensures c.same.ensures) c.word.ensures
