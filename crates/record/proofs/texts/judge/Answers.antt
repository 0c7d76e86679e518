-- `judge` meets its promise: too long a text is told so, any other by what it comes to.
use Rattle.std.proofs.Common.{rules}
use Rattle.record.proofs.Laws.Saying.{judged_long, judged_short}
use Rattle.record.proofs.texts.judge.Goals as goal

pub returns-then-text-gt65535 : goal.returns-then-text-gt65535
returns-then-text-gt65535 c = search (judged_long, rules)

pub returns : goal.returns
returns c = search (judged_short, rules)
