-- `tum_record_text` meets its promise: what is heard of the call is what is seen of it.
use Rattle.std.proofs.Common.{rules}
use Rattle.table.proofs.Laws.Numbered.{small_number}
use Rattle.tumbrelice.proofs.Texts.{undone_done, undone_refused}
use Rattle.tumbrelice.proofs.records.tum_record_text.Goals as goal

pub returns-in-Ok : goal.returns-in-Ok
returns-in-Ok c = search (undone_done, rules)

pub word_of-requires-in-Err : goal.word_of-requires-in-Err
word_of-requires-in-Err c = search (small_number, rules)

pub returns-in-Err : goal.returns-in-Err
returns-in-Err c = search (undone_refused, rules)
