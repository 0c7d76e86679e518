-- `tum_vector_text_read` meets its promise: what is heard of the call is what is seen of it.
use Rattle.tumbrelice.proofs.Texts.{vector_read_fit, vector_read_heard}
use Rattle.tumbrelice.proofs.forms.tum_vector_text_read.Goals as goal

pub word-requires : goal.word-requires
word-requires c = vector_read_fit _ _ _ _ _ _ c.in_numbers-read.ensures c.no_vector.ensures c.vector_read.ensures

pub returns : goal.returns
returns c = vector_read_heard _ _ _ _ _ _ _ _ c.in_numbers-read.ensures c.no_vector.ensures c.vector_read.ensures c.vector_made.ensures c.word.ensures
