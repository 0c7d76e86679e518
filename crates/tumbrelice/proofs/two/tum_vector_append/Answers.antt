-- `tum_vector_append` meets its promise: what is heard of the call is what is seen of it.
use Rattle.tumbrelice.proofs.Numbers.{two_numbers}
use Rattle.tumbrelice.proofs.Twos.{two_fit, vectors_hear}
use Rattle.tumbrelice.proofs.two.tum_vector_append.Goals as goal

pub word-requires : goal.word-requires
word-requires c = two_fit _ _ _ _ _ _ _ _ _ _ (two_numbers _ _ _ _ _ _ _ _ _ _ _ c.in_numbers-a.ensures c.append.ensures)

pub returns : goal.returns
returns c = vectors_hear _ _ _ _ _ _ _ _ _ _ _ _ _ c.vector_in-v.ensures.0 c.vector_in-v.ensures.1 c.vector_in-t.ensures.0 c.vector_in-t.ensures.1 (two_numbers _ _ _ _ _ _ _ _ _ _ _ c.in_numbers-a.ensures c.append.ensures) c.vector_out.ensures c.vector_out-2.ensures c.word.ensures
