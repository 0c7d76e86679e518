-- A run of slots is a run of positions, and past the last slot a second run goes on at slot 0.
use Rattle.std.proofs.Common.{rules}
use Rattle.slots.proofs.Parted.{lay_one, lay_parted}
use Rattle.runs.proofs.copy.lay.Goals as goal

pub returns-then-runs-eq0 : goal.returns-then-runs-eq0
returns-then-runs-eq0 c = search lay_one

pub returns : goal.returns
returns c = search (lay_parted, rules)
