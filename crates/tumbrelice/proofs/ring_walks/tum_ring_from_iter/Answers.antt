-- `tum_ring_from_iter` meets its promise: what is heard of the call is what is seen of it.
use Rattle.tumbrelice.proofs.Numbers.{taken_numbers}
use Rattle.tumbrelice.proofs.Twos.{taken_fit, ring_into}
use Rattle.tumbrelice.proofs.ring_walks.tum_ring_from_iter.Goals as goal

pub word-requires : goal.word-requires
word-requires c = taken_fit _ _ _ _ _ _ _ (taken_numbers _ _ _ _ _ _ _ _ _ c.in_numbers-a.ensures c.from_iter.ensures)

pub returns : goal.returns
returns c = ring_into c.args.state.now _ _ _ _ _ _ _ _ _ _ _ _ c.ring_in-r.ensures.0 c.cursor_in-u.ensures c.vector_in-t.ensures.0 c.vector_in-t.ensures.1 (taken_numbers _ _ _ _ _ _ _ _ _ c.in_numbers-a.ensures c.from_iter.ensures) c.cursor_out.ensures c.vector_out.ensures c.word.ensures
