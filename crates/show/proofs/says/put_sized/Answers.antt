-- The pieces, one behind another.
use Rattle.std.proofs.Common.{rules}
use Rattle.show.proofs.Saying.{sized_wrote}
use Rattle.show.proofs.says.put_sized.Goals as goal

pub returns : goal.returns
returns c = search (sized_wrote, rules)
