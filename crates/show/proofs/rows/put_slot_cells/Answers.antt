-- A cell more, and all.
use Rattle.std.proofs.Common.{rules}
use Rattle.words.proofs.Writing.{left_all}
use Rattle.show.proofs.Drawn.{slot_turn, slot_end}
use Rattle.show.proofs.rows.put_slot_cells.Goals as goal

pub loop-i-init : goal.loop-i-init
loop-i-init c = search (left_all, rules)

pub loop-i-preserved : goal.loop-i-preserved
loop-i-preserved c = search (slot_turn, rules)

pub returns : goal.returns
returns c = search (slot_end, rules)
