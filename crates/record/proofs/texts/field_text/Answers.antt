-- `field_text` meets its promise: the tests in their order, then the field's bytes are counted and written.
use Rattle.std.proofs.Common.{rules}
use Rattle.record.proofs.Laws.Undoing.{too_long, no_order, no_end, no_room, size_fits, unquoted_there}
use Rattle.record.proofs.texts.field_text.Goals as goal

pub returns-then-text-gt65535 : goal.returns-then-text-gt65535
returns-then-text-gt65535 c = search (too_long, rules)

pub returns-then-end-start : goal.returns-then-end-start
returns-then-end-start c = search (no_order, rules)

pub returns-then-text-end : goal.returns-then-text-end
returns-then-text-end c = search (no_end, rules)

pub returns-then-out-size : goal.returns-then-out-size
returns-then-out-size c = search (no_room, rules)

pub overflow_cast-result : goal.overflow_cast-result
overflow_cast-result c = search (size_fits, rules)

pub returns : goal.returns
returns c = search (unquoted_there, rules)
