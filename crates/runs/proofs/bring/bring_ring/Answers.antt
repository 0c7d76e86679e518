-- The two runs' numbers are the entries, laid one behind the other, and their sums make the total.
use Rattle.slots.proofs.Parted.{sum_parted, bring_parted}
use Rattle.runs.proofs.bring.bring_ring.Goals as goal

pub returns : goal.returns
returns c = (search bring_parted, search sum_parted)
