-- `tum_vector_text` meets its promise: what is heard of the call is what is seen of it.
use Rattle.tumbrelice.proofs.Texts.{vector_text_fit, vector_stored_heard}
use Rattle.tumbrelice.proofs.forms.tum_vector_text.Goals as goal

pub word-requires : goal.word-requires
word-requires c = vector_text_fit _ _ _ _ _ _ c.in_numbers-a.ensures c.vector_text.ensures

pub returns : goal.returns
returns c = vector_stored_heard c.args.state.now _ _ _ _ _ _ _ c.vector_in-v.ensures.0 c.in_numbers-a.ensures c.vector_text.ensures c.word.ensures
