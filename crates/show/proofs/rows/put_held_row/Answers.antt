-- The pieces, one behind another.
use Rattle.std.proofs.Common.{rules}
use Rattle.show.proofs.Drawn.{held_row_law}
use Rattle.show.proofs.rows.put_held_row.Goals as goal

pub returns : goal.returns
returns c = search (held_row_law, rules)
