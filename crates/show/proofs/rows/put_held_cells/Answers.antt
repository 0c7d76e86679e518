-- A cell more, and all.
use Rattle.std.proofs.Common.{rules}
use Rattle.show.proofs.Drawn.{held_start, held_turn, held_end}
use Rattle.show.proofs.rows.put_held_cells.Goals as goal

pub loop-x-init : goal.loop-x-init
loop-x-init c = search (held_start, rules)

pub loop-x-preserved : goal.loop-x-preserved
loop-x-preserved c = search (held_turn, rules)

pub returns : goal.returns
returns c = search (held_end, rules)
