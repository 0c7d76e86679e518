-- `undone_size` meets its promise: one byte more, and in the end all of them.
use Rattle.std.proofs.Common.{rules}
use Rattle.record.proofs.Laws.Undoing.{one_counted, all_counted}
use Rattle.record.proofs.texts.undone_size.Goals as goal

pub loop-at-preserved : goal.loop-at-preserved
loop-at-preserved c = search (one_counted, rules)

pub returns : goal.returns
returns c = search (all_counted, rules)
