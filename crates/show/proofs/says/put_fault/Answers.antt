-- The pieces, one behind another.
use Rattle.std.proofs.Common.{rules}
use Rattle.show.proofs.Saying.{fault_wrote}
use Rattle.show.proofs.says.put_fault.Goals as goal

pub returns : goal.returns
returns c = search (fault_wrote, rules)
