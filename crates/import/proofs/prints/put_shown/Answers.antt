-- `put_shown` meets its promise: the bytes up to here are written; no byte takes more than four.
use borrow.Author.Rules.{rules}
use Rattle.import.proofs.Writing.{shown_first, shown_more}
use Rattle.import.proofs.prints.put_shown.Goals as goal

pub loop-b-init : goal.loop-b-init
loop-b-init c = search (shown_first, rules)

pub loop-b-preserved : goal.loop-b-preserved
loop-b-preserved c = search (shown_more, rules)
