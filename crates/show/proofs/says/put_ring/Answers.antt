-- The pieces, one behind another.
use Rattle.std.proofs.Common.{rules}
use Rattle.show.proofs.Saying.{ring_wrote}
use Rattle.show.proofs.says.put_ring.Goals as goal

pub returns : goal.returns
returns c = search (ring_wrote, rules)
