-- The pieces, one behind another.
use Rattle.std.proofs.Common.{rules}
use Rattle.show.proofs.Drawn.{held_cell_law}
use Rattle.show.proofs.rows.put_held_cell.Goals as goal

pub returns : goal.returns
returns c = search (held_cell_law, rules)
