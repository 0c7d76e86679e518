-- The pieces, one behind another.
use Rattle.std.proofs.Common.{rules}
use Rattle.show.proofs.Drawn.{group_wrote}
use Rattle.show.proofs.put_group.Goals as goal

pub returns : goal.returns
returns c = search (group_wrote, rules)
