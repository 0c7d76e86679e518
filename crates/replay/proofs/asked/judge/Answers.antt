-- `judge` meets its promise: a line of 34 digits is taken as its numbers are.
use borrow.Author.Rules.{rules}
use Rattle.replay.proofs.Taken.{takes_line}
use Rattle.replay.proofs.asked.judge.Goals as goal

pub returns : goal.returns
returns c = search (takes_line, rules)
