-- The pieces, one behind another.
use Rattle.std.proofs.Common.{rules}
use Rattle.show.proofs.Drawn.{right_wrote}
use Rattle.show.proofs.rows.put_right.Goals as goal

pub returns : goal.returns
returns c = search (right_wrote, rules)
