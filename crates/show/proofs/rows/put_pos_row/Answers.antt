-- The pieces, one behind another.
use Rattle.std.proofs.Common.{rules}
use Rattle.show.proofs.Drawn.{pos_row_law}
use Rattle.show.proofs.rows.put_pos_row.Goals as goal

pub returns : goal.returns
returns c = search (pos_row_law, rules)
