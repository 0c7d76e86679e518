-- The digits found, with those that are left, are always all.
use Rattle.std.proofs.Common.{rules}
use Rattle.show.proofs.Finding.{leading_stop, leading_turn, leading_all}
use Rattle.show.proofs.faults.leading.Goals as goal

pub returns-then-no_digit : goal.returns-then-no_digit
returns-then-no_digit c = search (leading_stop, rules)

pub loop-i-preserved : goal.loop-i-preserved
loop-i-preserved c = search (leading_turn, rules)

pub returns : goal.returns
returns c = search (leading_all, rules)
