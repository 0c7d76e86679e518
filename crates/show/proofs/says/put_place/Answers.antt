-- The pieces, one behind another.
use Rattle.std.proofs.Common.{rules}
use Rattle.show.proofs.Saying.{place_wrote}
use Rattle.show.proofs.says.put_place.Goals as goal

pub returns : goal.returns
returns c = search (place_wrote, rules)
