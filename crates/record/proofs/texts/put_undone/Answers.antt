-- A byte written, and the position behind it: the rest of the promise is proved by the lemmas that the function names.
use Rattle.std.proofs.Common.{rules}
use Rattle.record.proofs.Laws.Undoing.{one_undone}
use Rattle.record.proofs.texts.put_undone.Goals as goal

pub loop-at-preserved : goal.loop-at-preserved
loop-at-preserved c = search (one_undone, rules)
