-- A cell more, and all.
use Rattle.std.proofs.Common.{rules}
use Rattle.words.proofs.Writing.{left_all}
use Rattle.show.proofs.Drawn.{entries_turn, entries_end}
use Rattle.show.proofs.rows.put_entries.Goals as goal

pub loop-j-init : goal.loop-j-init
loop-j-init c = search (left_all, rules)

pub loop-j-preserved : goal.loop-j-preserved
loop-j-preserved c = search (entries_turn, rules)

pub returns : goal.returns
returns c = search (entries_end, rules)
