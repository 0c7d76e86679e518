-- The pieces, one behind the other.
use Rattle.std.proofs.Common.{rules}
use Rattle.words.proofs.Decimals.{numbered_wrote}
use Rattle.words.proofs.put_numbered.Goals as goal

pub returns : goal.returns
returns c = search (numbered_wrote, rules)
