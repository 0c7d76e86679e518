-- A run of slots is a run of positions, and past the last slot a second run goes on at slot 0.
use Rattle.slots.proofs.Parted.{fill_one, fill_parted}
use Rattle.runs.proofs.fill.Goals as goal

pub returns-then-runs-eq0 : goal.returns-then-runs-eq0
returns-then-runs-eq0 c = search fill_one

pub returns : goal.returns
returns c = search fill_parted
