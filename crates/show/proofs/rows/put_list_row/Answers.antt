-- The pieces, one behind another.
use Rattle.std.proofs.Common.{rules}
use Rattle.show.proofs.Drawn.{list_row_law}
use Rattle.show.proofs.rows.put_list_row.Goals as goal

pub returns : goal.returns
returns c = search (list_row_law, rules)
