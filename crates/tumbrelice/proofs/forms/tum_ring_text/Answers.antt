-- `tum_ring_text` meets its promise: what is heard of the call is what is seen of it.
use Rattle.tumbrelice.proofs.Texts.{ring_text_fit, ring_stored_heard}
use Rattle.tumbrelice.proofs.forms.tum_ring_text.Goals as goal

pub word-requires : goal.word-requires
word-requires c = ring_text_fit _ _ _ _ _ _ c.in_numbers-told.ensures c.ring_text.ensures

pub returns : goal.returns
returns c = ring_stored_heard c.args.state.now _ _ _ _ _ _ _ c.ring_in-r.ensures.0 c.in_numbers-told.ensures c.ring_text.ensures c.word.ensures
