-- Nothing adds up to 0.
use Rattle.stored.proofs.Taking.{none_total}
use Rattle.stored.proofs.readers.ring_total.Goals as goal

pub returns-then-len-eq0 : goal.returns-then-len-eq0
returns-then-len-eq0 c = search none_total
