-- The pieces, one behind another.
use Rattle.std.proofs.Common.{rules}
use Rattle.show.proofs.Saying.{len_total_wrote}
use Rattle.show.proofs.says.put_len_total.Goals as goal

pub returns : goal.returns
returns c = search (len_total_wrote, rules)
