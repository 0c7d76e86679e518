-- The pieces, one behind another.
use Rattle.std.proofs.Common.{rules}
use Rattle.show.proofs.Drawn.{slot_row_law}
use Rattle.show.proofs.rows.put_slot_row.Goals as goal

pub returns : goal.returns
returns c = search (slot_row_law, rules)
