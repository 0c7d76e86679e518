-- A run of slots is a run of positions, and past the last slot a second run goes on at slot 0, one step across from the first.
use Rattle.std.proofs.Common.{arith}
use Rattle.slots.proofs.Parted.{down_one, down_two}
use Rattle.runs.proofs.shift_down.Goals as goal

pub returns-then-runs-eq0 : goal.returns-then-runs-eq0
returns-then-runs-eq0 c = search down_one

pub returns : goal.returns
returns c = down_two _ _ _ _ _ _ _ _ c.requires c.parted-runs.ensures _ (omega (arith, c.if-runs-eq0.false)) c.run_down.ensures c.run_down-2.ensures
