-- The pieces, one behind another.
use Rattle.std.proofs.Common.{rules}
use Rattle.words.proofs.Decimals.{several_one, several_more}
use Rattle.words.proofs.put_several.Goals as goal

pub returns-then-n-eq1 : goal.returns-then-n-eq1
returns-then-n-eq1 c = search (several_one, rules)

pub returns : goal.returns
returns c = search (several_more, rules)
