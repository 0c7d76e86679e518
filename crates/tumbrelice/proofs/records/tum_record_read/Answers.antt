-- `tum_record_read` meets its promise: what is heard of the call is what is seen of it.
use Rattle.tumbrelice.proofs.Texts.{record_numbers, record_fit, record_hears}
use Rattle.tumbrelice.proofs.records.tum_record_read.Goals as goal

pub word-requires : goal.word-requires
word-requires c = record_fit _ _ _ _ _ _ _ _ (record_numbers _ _ _ _ _ _ _ _ _ c.in_numbers-a.ensures c.read.ensures)

pub returns : goal.returns
returns c = record_hears _ _ _ _ _ _ _ _ _ _ _ _ _ c.vector_in-v.ensures.0 c.vector_in-v.ensures.1 c.vector_in-t.ensures.0 c.vector_in-t.ensures.1 (record_numbers _ _ _ _ _ _ _ _ _ c.in_numbers-a.ensures c.read.ensures) c.vector_out.ensures c.vector_out-2.ensures c.word.ensures
