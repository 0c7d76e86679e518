-- The pieces, one behind another.
use Rattle.std.proofs.Common.{rules}
use Rattle.show.proofs.Saying.{older_wrote}
use Rattle.show.proofs.says.put_older.Goals as goal

pub returns : goal.returns
returns c = search (older_wrote, rules)
