-- Nothing is said of a head that is read as it stands.
use Rattle.std.proofs.Common.{rules}
use Rattle.show.proofs.Saying.{older_none}
use Rattle.show.proofs.says.put_older_said.Goals as goal

pub returns-then-was-head : goal.returns-then-was-head
returns-then-was-head c = search (older_none, rules)
