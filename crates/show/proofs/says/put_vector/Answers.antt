-- The pieces, one behind another.
use Rattle.std.proofs.Common.{rules}
use Rattle.show.proofs.Saying.{vector_wrote}
use Rattle.show.proofs.says.put_vector.Goals as goal

pub returns : goal.returns
returns c = search (vector_wrote, rules)
