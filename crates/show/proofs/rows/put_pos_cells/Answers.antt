-- A cell more, and all.
use Rattle.std.proofs.Common.{rules}
use Rattle.words.proofs.Writing.{left_all}
use Rattle.show.proofs.Drawn.{pos_turn, pos_end}
use Rattle.show.proofs.rows.put_pos_cells.Goals as goal

pub loop-i-init : goal.loop-i-init
loop-i-init c = search (left_all, rules)

pub loop-i-preserved : goal.loop-i-preserved
loop-i-preserved c = search (pos_turn, rules)

pub returns : goal.returns
returns c = search (pos_end, rules)
