-- `tum_ring_text_read` meets its promise: what is heard of the call is what is seen of it.
use Rattle.tumbrelice.proofs.Texts.{ring_read_fit, ring_read_heard}
use Rattle.tumbrelice.proofs.forms.tum_ring_text_read.Goals as goal

pub word-requires : goal.word-requires
word-requires c = ring_read_fit _ _ _ _ _ _ c.in_numbers-made.ensures c.no_ring.ensures c.ring_read.ensures

pub returns : goal.returns
returns c = ring_read_heard _ _ _ _ _ _ _ _ c.in_numbers-made.ensures c.no_ring.ensures c.ring_read.ensures c.ring_made.ensures c.word.ensures
