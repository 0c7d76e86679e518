-- The pieces, one behind another.
use Rattle.std.proofs.Common.{rules}
use Rattle.show.proofs.Saying.{headed_wrote}
use Rattle.show.proofs.says.put_head.Goals as goal

pub returns : goal.returns
returns c = search (headed_wrote, rules)
