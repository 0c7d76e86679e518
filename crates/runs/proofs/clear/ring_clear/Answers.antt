-- One run's sum is the total. Two runs' sums make it, since the first run's clearing left the second as it was.
use Rattle.slots.proofs.Parted.{sum_one, sum_parted_filled, fill_one, fill_parted}
use Rattle.runs.proofs.clear.ring_clear.Goals as goal

pub returns-then-runs-eq0 : goal.returns-then-runs-eq0
returns-then-runs-eq0 c = (search sum_one, search fill_one)

pub returns : goal.returns
returns c = (search sum_parted_filled, search fill_parted)
